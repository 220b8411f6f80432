use Rattle.std.proofs.Common.{◌≡◌, ◌<◌, ◌≤◌, ⊎_elim, [], ◌∷◌, ◌++◌, refl, sym, ◌∙◌, ap, arith, subst, append_assoc}
use Rattle.std.specs.List.{Contains}
use Rattle.std.proofs.lemmas.List.Elements.{Contains-append_cases}
use Rattle.redo_core.proofs.Members.{none_in, only}
use Rattle.redo_writer.specs.declared.parts.AliveRecord.{AliveRecord}
use Rattle.redo_writer.specs.Tracks.{IsAliveRecord, Tracks, newest_number}
use Rattle.redo_writer.proofs.Tracking.{Under, all_under, popped, ended, top_there}
use Rattle.redo_writer.proofs.tail.annul_above.Goals as goal

pub loop-alive-init : goal.loop-alive-init
loop-alive-init c = (
  ([], refl, λ x h. absurd (none_in x h)),
  λ log k settled links low t. all_under (IsAliveRecord log k) settled c.args.lo c.args.page_tops.now.items c.args.alive.now.items t,
)

pub loop-alive-preserved-in-Some : goal.loop-alive-preserved-in-Some
loop-alive-preserved-in-Some c =
    let above : c.args.lo < c.in-Some.entry.number =
    let top : c.number_on_top.result ≡ c.in-Some.entry.number = c.number_on_top.ensures ∙ ap (newest_number 0) c.in-Some.ensures.items in
    let more : c.args.lo < c.number_on_top.result = c.loop-alive-test.true in omega arith in
    let past = c.loop-alive.invariant.0 in (
      (
        past.0 ++ c.in-Some.entry ∷ [],
        past.1 ∙ ap (λ xs. past.0 ++ xs) c.in-Some.ensures.items ∙ sym (append_assoc past.0 (c.in-Some.entry ∷ []) c.pop_front.new.self.items),
        λ x h. ⊎_elim
            (λ (q : Contains past.0 x). past.2 x q)
            (λ (q : Contains (c.in-Some.entry ∷ []) x). let n : c.in-Some.entry.number ≡ x.number = ap (λ (z : AliveRecord). z.number) (only c.in-Some.entry x q) in
            omega arith)
            (Contains-append_cases past.0 (c.in-Some.entry ∷ []) x h),
      ),
      λ log k settled links low t.
          let h = c.loop-alive.invariant.1 log k settled links low t in
          let here : Tracks (Under (IsAliveRecord log k) h.0) settled c.loop-alive.page_tops.items (c.in-Some.entry ∷ c.pop_front.new.self.items) =
          subst (Tracks (Under (IsAliveRecord log k) h.0) settled c.loop-alive.page_tops.items) c.in-Some.ensures.items h.2 in (
            c.in-Some.entry.number,
            above,
            popped (IsAliveRecord log k) h.0 settled c.loop-alive.page_tops.items c.restore_top.new.page_tops.items c.in-Some.entry c.pop_front.new.self.items
                links here (c.restore_top.ensures (top_there (Under (IsAliveRecord log k) h.0) settled c.loop-alive.page_tops.items c.in-Some.entry
                c.pop_front.new.self.items here)),
          ),
    )

pub returns-clause-entries : goal.returns-clause-entries
returns-clause-entries c =
    let past = c.loop-alive.invariant.0 in
    record {
      dropped = past.0;
      parts = past.1;
      above = past.2;
      rest = (let e = c.number_on_top.ensures in let l : c.number_on_top.result ≤ c.args.lo = c.loop-alive-test.false in omega arith);
    }

pub returns-clause-tracks : goal.returns-clause-tracks
returns-clause-tracks c log k settled links low t =
    let h = c.loop-alive.invariant.1 log k settled links low t in
    ended (IsAliveRecord log k) h.0 settled c.args.lo c.loop-alive.page_tops.items c.loop-alive.alive.items h.1 low
    (let e = c.number_on_top.ensures in let l : c.number_on_top.result ≤ c.args.lo = c.loop-alive-test.false in
    let m : newest_number 0 c.loop-alive.alive.items ≤ c.args.lo = omega arith in m) h.2
