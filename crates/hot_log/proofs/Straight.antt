-- Contiguous chains: no orphan record and no fork from one LSN to another.
use Rattle.std.proofs.Common.{◌≡◌, ℕ, ◌<◌, ◌≤◌, ⊎_elim, List, sym, ◌∙◌, ap, subst, arith, Some, rules}
use Rattle.std.proofs.lemmas.Bool.{cases_lt}
use Rattle.redo_core.specs.Data.{RecordData}
use Rattle.redo_core.specs.Linked.{Linked}
use Rattle.redo_core.specs.Linked.Linked.{start, next}
use Rattle.epoch_book.specs.Book.{BookData}
use Rattle.hot_log.specs.Alive.{IsHeldAlive, IsLinkedFrom, IsContiguous}
use Rattle.hot_log.specs.Found.{IsLeastRecord}
use Rattle.hot_log.proofs.Chain.{link_at_least}

-- a contiguous chain
pub record Straight (b : BookData) (held : List RecordData) (from top : ℕ) : Type 0 where
  pub is : IsContiguous b held from top
  pub linked : IsLinkedFrom b held from top

-- a linked LSN above top is that of an alive record above top
pub linked_above : (b : BookData) (held : List RecordData) (from top : ℕ) → from ≤ top → (n : ℕ) → IsLinkedFrom b held from n → top < n → (r : RecordData) × IsHeldAlive b held r × (r.number ≡ n)
linked_above b held from top le n l up = search rules

-- where no alive record up to a limit is above top, no linked LSN up to there is
pub none_over : (b : BookData) (held : List RecordData) (from top limit : ℕ) → from ≤ top → ((r : RecordData) → IsHeldAlive b held r → r.number ≤ limit → r.number ≤ top) → (n : ℕ) → IsLinkedFrom b held from n → n ≤ limit → n ≤ top
none_over b held from top limit le low n l to =
    ⊎_elim
    (λ (up : top < n).
    let t = linked_above b held from top le n l up in
    let same : t.0.number ≡ n = t.2 in
    let small : t.0.number ≤ top = low t.0 t.1 (omega arith) in
    omega arith)
    (λ (under : n ≤ top). under)
    (cases_lt top n)

pub straight_start : (b : BookData) (held : List RecordData) (from : ℕ) → Straight b held from from
straight_start b held from = record {
  is = record {
    linked = λ r h up le. absurd (omega arith);
    onward = λ m n l k le low.
        let at_least : from ≤ m = link_at_least b.cuts held b.complete from m l in
        let same : m ≡ n = omega arith in
        subst (Linked b.cuts held b.complete m) same start;
  };
  linked = start;
}

pub straight_next : (b : BookData) (held : List RecordData) (from top : ℕ) (x : RecordData) → Straight b held from top → IsLeastRecord (λ r. IsHeldAlive b held r × (top < r.number)) (Some x) → x.back ≡ top → Straight b held from x.number
straight_next b held from top x s found back =
    let low : from ≤ top = link_at_least b.cuts held b.complete from top s.linked in
    let up : top < x.number = found.0.1 in
    let linked : IsLinkedFrom b held from x.number = next x found.0.0.0 found.0.0.1 (omega arith) (subst (IsLinkedFrom b held from) (sym back) s.linked) in
    let only = λ (n : ℕ) (l : IsLinkedFrom b held from n) (over : top < n) (le : n ≤ x.number).
    let t = linked_above b held from top low n l over in
    let same : t.0.number ≡ n = t.2 in
    let it : n ≡ x.number = ⊎_elim
    (λ (e : t.0 ≡ x). let same2 : t.0.number ≡ x.number = ap (λ (y : RecordData). y.number) e in omega arith)
    (λ (l2 : x.number < t.0.number). absurd (omega arith))
    (found.1 t.0 (t.1, omega arith)) in
    it in
    record {
      is = record {
        linked = λ r h above le. ⊎_elim
            (λ (over : top < r.number). ⊎_elim
            (λ (e : r ≡ x). subst (λ (y : RecordData). IsLinkedFrom b held from y.number) (sym e) linked)
            (λ (l2 : x.number < r.number). absurd (omega arith))
            (found.1 r (h, over)))
            (λ (l : r.number ≤ top). s.is.linked r h above l)
            (cases_lt top r.number);
        onward = λ m n l k le to. ⊎_elim
            (λ (over : top < n).
            let here : n ≡ x.number = only n k over to in
            ⊎_elim
            (λ (m_over : top < m). let there : m ≡ x.number = only m l m_over (omega arith) in subst (Linked b.cuts held b.complete m) (there ∙ sym here) start)
            (λ (m_low : m ≤ top). subst (Linked b.cuts held b.complete m) (sym here) (next x found.0.0.0 found.0.0.1 (omega arith) (subst (Linked b.cuts held b.complete m) (sym back) (s.is.onward m top l s.linked m_low (let t : top ≤ top = omega arith in t)))))
            (cases_lt top m))
            (λ (l2 : n ≤ top). s.is.onward m n l k le l2)
            (cases_lt top n);
      };
      linked = linked;
    }
