-- The kept points where a record joins at the top of a contiguous chain.
use Rattle.std.proofs.Common.{◌≡◌, ℕ, ◌<◌, ◌≤◌, ◌⊎◌, inl, inr, ⊎_elim, List, refl, sym, subst, arith, IsTrue, true}
use Rattle.std.specs.List.{Contains}
use Rattle.std.proofs.lemmas.Bool.{cases_lt}
use Rattle.redo_core.specs.Data.{RecordData}
use Rattle.redo_core.specs.Linked.Linked.{start, next}
use Rattle.redo_core.specs.Roster.{least}
use Rattle.epoch_book.specs.Book.{BookData}
use Rattle.hot_log.specs.Alive.{HasNoneEarlier, IsHeldAlive, IsLinkedFrom, IsContiguous, IsStraightEnd}
use Rattle.hot_log.proofs.Chain.{link_at_least}
use Rattle.hot_log.proofs.Forks.{link_trans}
use Rattle.hot_log.proofs.Growth.{Joins, still_linked, newly_linked}
use Rattle.segment_core.specs.Points.{MoveOn, HasPoints, JoinsOnTop, AnchorsOn}
use Rattle.segment_core.specs.declared.points.Points.{Points}
use Rattle.segment_core.proofs.Moving.{joins_of, from_there, on_top}

pub record Topping (b : BookData) (old new : List RecordData) (base : ℕ) (p : Points) (r : RecordData) (top : ℕ) : Type 0 where
  pub joins : Joins b old new r
  pub back : r.back ≡ p.complete
  pub has : HasPoints b old base p
  pub straight : IsContiguous b old base p.complete
  pub between : (s : RecordData) → IsHeldAlive b new s → p.complete < s.number → r.number ≤ s.number
  pub end : IsStraightEnd b new r.number top
  pub late : HasNoneEarlier b new p.complete p.since

up : (b : BookData) (old new : List RecordData) (base : ℕ) (p : Points) (r : RecordData) (top : ℕ) → Topping b old new base p r top → p.complete < r.number
up b old new base p r top t = let back : r.back ≡ p.complete = t.back in let below : r.back < r.number = t.joins.below in omega arith

one_link : (b : BookData) (old new : List RecordData) (base : ℕ) (p : Points) (r : RecordData) (top : ℕ) → Topping b old new base p r top
    → IsLinkedFrom b new p.complete r.number
one_link b old new base p r top t =
    next r ((t.joins.members r).1 (inr refl)) t.joins.alive (up b old new base p r top t) (subst (IsLinkedFrom b new p.complete) (sym t.back) start)

-- what is linked from the old complete point is that, or linked from the record
through : (b : BookData) (old new : List RecordData) (base : ℕ) (p : Points) (r : RecordData) (top : ℕ) → Topping b old new base p r top → (n : ℕ)
    → IsLinkedFrom b new p.complete n → (n ≡ p.complete) ⊎ IsLinkedFrom b new r.number n
through b old new base p r top t n start = inl refl
through b old new base p r top t n (next s h a lt l) = ⊎_elim
    (λ (e : s.back ≡ p.complete). ⊎_elim
    (λ (u : Contains old s). absurd (
    let low : base ≤ p.complete = link_at_least b.cuts old b.complete base p.complete t.has.complete.linked in
    let le : s.number ≤ p.complete = t.has.complete.most s.number (next s u a (omega arith) (subst (IsLinkedFrom b old base) (sym e) t.has.complete.linked)) in
    omega arith))
    (λ (u : s ≡ r). inr (subst (λ (x : RecordData). IsLinkedFrom b new r.number x.number) (sym u) start))
    ((t.joins.members s).0 h))
    (λ (u : IsLinkedFrom b new r.number s.back).
    let ge : r.number ≤ s.back = link_at_least b.cuts new b.complete r.number s.back u in
    let below : s.back < s.number = t.joins.shaped s h in
    inr (next s h a (omega arith) u))
    (through b old new base p r top t s.back l)

straight_on : (b : BookData) (old new : List RecordData) (base : ℕ) (p : Points) (r : RecordData) (top : ℕ) → Topping b old new base p r top
    → IsContiguous b new p.complete top
straight_on b old new base p r top t =
    let one = one_link b old new base p r top t in
    let over : p.complete < r.number = up b old new base p r top t in
    record {
      linked = λ s h lt le. ⊎_elim
          (λ (far : r.number < s.number). link_trans b.cuts new b.complete p.complete r.number s.number one (t.end.straight.linked s h far le))
          (λ (near : s.number ≤ r.number).
          let low : r.number ≤ s.number = t.between s h lt in
          subst (IsLinkedFrom b new p.complete) (let e : r.number ≡ s.number = omega arith in e) one)
          (cases_lt r.number s.number);
      onward = λ m n l k le to. ⊎_elim
          (λ (e : m ≡ p.complete). subst (λ x. IsLinkedFrom b new x n) (sym e) k)
          (λ (u : IsLinkedFrom b new r.number m). ⊎_elim
          (λ (e : n ≡ p.complete). absurd (let ge : r.number ≤ m = link_at_least b.cuts new b.complete r.number m u in omega arith))
          (λ (v : IsLinkedFrom b new r.number n). t.end.straight.onward m n u v le to)
          (through b old new base p r top t n k))
          (through b old new base p r top t m l);
    }

-- The complete point is the end of the chain from the record; the anchor continues from the record where the minimum read point has come so far.
end_of_chain : (b : BookData) (old new : List RecordData) (base top anchor : ℕ) (p : Points) (r : RecordData) → IsTrue p.straight → Topping b old new base p r top
    → AnchorsOn b new r.number p.anchor anchor → HasPoints b new base (record { complete = top; anchor = anchor; straight = true; since = p.since })
end_of_chain b old new base top anchor p r flag t on =
    let over : p.complete < r.number = up b old new base p r top t in
    let far : r.number ≤ top = link_at_least b.cuts new b.complete r.number top t.end.linked in
    let one = one_link b old new base p r top t in
    let base_top : IsLinkedFrom b new base r.number = link_trans b.cuts new b.complete base p.complete r.number
    (still_linked b old new r base p.complete t.joins t.has.complete.linked) one in
    let either = λ (m : ℕ) (l : IsLinkedFrom b new p.anchor m). newly_linked b old new r base m t.joins
    (link_trans b.cuts new b.complete base p.anchor m (still_linked b old new r base p.anchor t.joins t.has.anchor.linked) l) in
    let low : p.anchor ≤ p.complete = t.has.complete.most p.anchor t.has.anchor.linked in
    let moved : MoveOn b new p (record { complete = top; anchor = anchor; straight = true; since = p.since }) = record {
      complete = record {
        linked = link_trans b.cuts new b.complete p.complete r.number top one t.end.linked;
        most = λ m l. ⊎_elim (λ (e : m ≡ p.complete). omega arith) (λ (u : IsLinkedFrom b new r.number m). t.end.most m u) (through b old new base p r top t m l);
      };
      anchor = ⊎_elim
          (λ (u : least b.points < r.number).
          let e : anchor ≡ p.anchor = on.0 u in
          let bound : p.anchor ≤ least b.points = t.has.anchor.bound in
          record {
            linked = subst (IsLinkedFrom b new p.anchor) (sym e) start;
            bound = omega arith;
            most = λ m l le. ⊎_elim
                (λ (v : IsLinkedFrom b old base m). let w : m ≤ p.anchor = t.has.anchor.most m v le in omega arith)
                (λ (v : IsLinkedFrom b old base r.back × (base < r.number) × IsLinkedFrom b new r.number m).
                absurd (let ge : r.number ≤ m = link_at_least b.cuts new b.complete r.number m v.2 in omega arith))
                (either m l);
          })
          (λ (u : r.number ≤ least b.points).
          let a = on.1 u in
          let ge : r.number ≤ anchor = link_at_least b.cuts new b.complete r.number anchor a.linked in
          record {
            linked = link_trans b.cuts new b.complete p.anchor r.number anchor
                (from_there b old new base p r p.anchor r.number t.joins t.back t.has t.straight t.has.anchor.linked (omega arith) base_top) a.linked;
            bound = a.bound;
            most = λ m l le. ⊎_elim
                (λ (v : IsLinkedFrom b old base m). let w : m ≤ p.complete = t.has.complete.most m v in omega arith)
                (λ (v : IsLinkedFrom b old base r.back × (base < r.number) × IsLinkedFrom b new r.number m). a.most m v.2 le)
                (either m l);
          })
          (cases_lt (least b.points) r.number);
      straight = λ u. straight_on b old new base p r top t;
      since = λ s h lt. t.late s h (omega arith);
    } in
    on_top b old new base p (record { complete = top; anchor = anchor; straight = true; since = p.since }) r t.joins t.back flag t.has moved

-- ---- from the contracts of the calls
pub ended : (b : BookData) (held : List RecordData) (base number top anchor : ℕ) (p : Points) → JoinsOnTop b held base number p
    → (((s : RecordData) × IsHeldAlive b held s × (p.complete < s.number) × (s.number < number)) → ⊥) → IsStraightEnd b held number top
    → AnchorsOn b held number p.anchor anchor → HasPoints b held base (record { complete = top; anchor = anchor; straight = true; since = p.since })
ended b held base number top anchor p j between end on =
    end_of_chain b j.earlier held base top anchor p j.redo j.straight (record {
      joins = joins_of b j.earlier held j.redo j.form j.puts.1 j.may.0;
      back = j.back;
      has = j.had;
      straight = j.had.straight j.straight;
      between = λ s h lt. subst (λ n. n ≤ s.number) (sym j.at)
          (⊎_elim (λ (u : s.number < number). absurd (between (s, h, lt, u))) (λ (u : number ≤ s.number). u) (cases_lt s.number number));
      end = subst (λ n. IsStraightEnd b held n top) (sym j.at) end;
      late = j.since;
    }) (subst (λ n. AnchorsOn b held n p.anchor anchor) (sym j.at) on)

-- over a fork or an orphan record the points move on as over any chain
pub walked : (b : BookData) (held : List RecordData) (base number : ℕ) (p q : Points) → JoinsOnTop b held base number p → MoveOn b held p q → HasPoints b held base q
walked b held base number p q j moved = on_top b j.earlier held base p q j.redo (joins_of b j.earlier held j.redo j.form j.puts.1 j.may.0) j.back j.straight j.had moved
