use Rattle.std.proofs.lemmas.Grind.{common_steps}
use Rattle.std.proofs.Common.{◌≡◌, ◌<◌, ◌≤◌, ⊎_elim, ◌∷◌, ◌++◌, [], ◌-◌, Some, get_or, refl, sym, ◌∙◌, ap, arith, subst, append_assoc}
use Rattle.std.specs.List.{Contains}
use Rattle.std.specs.Option.{option_to_list}
use Rattle.std.specs.VecDeque.{deque_len}
use Rattle.redo_core.proofs.Members.{which}
use Rattle.redo_writer.specs.declared.parts.AliveRecord.{AliveRecord}
use Rattle.redo_writer.specs.Tracks.{IsAliveRecord, Tracks}
use Rattle.redo_writer.proofs.Tracking.{settled_entry, oldest_least}
use Rattle.redo_writer.proofs.tail.settle.Goals as goal

pub loop-oldest-preserved : goal.loop-oldest-preserved
loop-oldest-preserved c =
    let some : 0 < deque_len c.loop-oldest.alive = grind (arith, common_steps) in
    let at : c.in-Some.oldest ≡ get_or c.loop-oldest.alive.items (deque_len c.loop-oldest.alive - 1) c.in-Some.oldest = grind (arith, common_steps) in
    let popped : c.pop_back.result ≡ Some c.in-Some.oldest = c.pop_back.ensures.value c.in-Some.oldest some ∙ ap Some (sym at) in
    let items : c.loop-oldest.alive.items ≡ c.pop_back.new.self.items ++ c.in-Some.oldest ∷ [] = c.pop_back.ensures.items ∙ ap
    (λ o. c.pop_back.new.self.items ++ option_to_list o) popped in
    let past = c.loop-oldest.invariant.0 in (
      (
        c.in-Some.oldest ∷ past.0,
        past.1 ∙ ap (λ xs. xs ++ past.0) items ∙ append_assoc c.pop_back.new.self.items (c.in-Some.oldest ∷ []) past.0,
        refl,
        λ x h. ⊎_elim
            (λ (q : c.in-Some.oldest ≡ x). subst (λ (z : AliveRecord). z.number ≤ c.args.point) q c.if-oldest-point.false)
            (λ (q : Contains past.0 x). past.3 x q)
            (which c.in-Some.oldest past.0 x h),
      ),
      λ log k tops low t.
          let h = c.loop-oldest.invariant.1 log k tops low t in (
            c.if-oldest-point.false,
            settled_entry (IsAliveRecord log k) c.loop-oldest.greatest tops c.in-Some.oldest c.pop_back.new.self.items
                (subst (Tracks (IsAliveRecord log k) c.loop-oldest.greatest tops) items h.1),
          ),
    )

pub returns-then-oldest-point-clause-left : goal.returns-then-oldest-point-clause-left
returns-then-oldest-point-clause-left c rising x m =
    let at : c.in-Some.oldest ≡ get_or c.loop-oldest.alive.items (deque_len c.loop-oldest.alive - 1) c.in-Some.oldest = grind (arith, common_steps) in
    oldest_least c.loop-oldest.alive.items c.in-Some.oldest c.args.point rising (at ∙ ap (λ n. get_or c.loop-oldest.alive.items (n - 1) c.in-Some.oldest) c.loop-oldest.alive.ok.0)
    c.if-oldest-point.true x m
