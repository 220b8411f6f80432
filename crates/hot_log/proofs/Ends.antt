-- Where a chain without forks and orphan records ends.
use Rattle.std.proofs.Common.{◌≡◌, ℕ, ◌<◌, ◌≤◌, ◌⊎◌, inl, inr, ⊎_elim, List, refl, sym, ◌∙◌, ap, subst, arith, Some, rules}
use Rattle.std.proofs.lemmas.Bool.{cases_lt}
use Rattle.redo_core.specs.Data.{RecordData}
use Rattle.redo_core.specs.Keys.{key_in, key_of, KeyBefore}
use Rattle.redo_core.specs.declared.keys.Key.{Key}
use Rattle.redo_core.specs.Order.{RecordBefore}
use Rattle.redo_core.specs.Linked.Linked.{start, next}
use Rattle.redo_core.proofs.Rising.{rising_members}
use Rattle.epoch_book.specs.Book.{BookData, IsBook}
use Rattle.hot_log.specs.Held.{IsHeld, HasKey}
use Rattle.hot_log.specs.Alive.{IsHeldAlive, IsLinkedFrom, IsStraightEnd, IsAliveOfBack}
use Rattle.hot_log.specs.Found.{IsLeastRecord}
use Rattle.hot_log.proofs.Chain.{link_at_least, link_down, back_below}
use Rattle.hot_log.proofs.Straight.{Straight, straight_start, straight_next, linked_above}
use Rattle.hot_log.proofs.Views.{view_of, one_number, number_before}
use Rattle.hot_log.proofs.Climb.{from_zero}

-- the chain so far: contiguous, and no alive record above it has a linked backlink below its end
pub record Climbed (b : BookData) (held : List RecordData) (from top : ℕ) : Type 0 where
  pub chain : Straight b held from top
  pub closed : (z : RecordData) → IsHeldAlive b held z → top < z.number → IsLinkedFrom b held from z.back → top ≤ z.back

pub climbed_none : (b : BookData) (held : List RecordData) (from : ℕ) → Climbed b held from from
climbed_none b held from = search (rules, straight_start, link_at_least)

-- an alive record with the end of the chain as its backlink, and none of a lower key
pub record IsStep (b : BookData) (held : List RecordData) (top : ℕ) (x : RecordData) : Type 0 where
  pub alive : IsHeldAlive b held x
  pub back : x.back ≡ top
  pub first : (r : RecordData) → IsHeldAlive b held r → r.back ≡ top → (r ≡ x) ⊎ (x.number < r.number)

pub step_up : (b : BookData) (held : List RecordData) (top : ℕ) (x : RecordData) → IsHeld held → IsStep b held top x → top < x.number
step_up b held top x form s =
    let back : x.back ≡ top = s.back in
    let below : x.back < x.number = back_below x (form.shaped x s.alive.0) in
    omega arith

step_linked : (b : BookData) (held : List RecordData) (from top : ℕ) (x : RecordData) → IsHeld held → Straight b held from top → IsStep b held top x
    → IsLinkedFrom b held from x.number
step_linked b held from top x form c s =
    let low : from ≤ top = link_at_least b.cuts held b.complete from top c.linked in
    let up : top < x.number = step_up b held top x form s in
    next x s.alive.0 s.alive.1 (omega arith) (subst (IsLinkedFrom b held from) (sym s.back) c.linked)

pub climbed_next : (b : BookData) (held : List RecordData) (from top : ℕ) (x : RecordData) → IsBook b → IsHeld held → Climbed b held from top → IsStep b held top x
    → (((r : RecordData) × IsHeldAlive b held r × (top < r.number) × (r.number < x.number)) → ⊥)
    → ((r : RecordData) → IsHeldAlive b held r → r.back ≡ top → x.number < r.number → ⊥) → Climbed b held from x.number
climbed_next b held from top x book form c s between second =
    let up : top < x.number = step_up b held top x form s in
    let low : from ≤ top = link_at_least b.cuts held b.complete from top c.chain.linked in
    let after = λ (r : RecordData) (h : IsHeldAlive b held r) (lt : top < r.number).
    let it : x.number ≤ r.number = ⊎_elim (λ (u : r.number < x.number). absurd (between (r, h, lt, u))) (λ (u : x.number ≤ r.number). u) (cases_lt r.number x.number) in it in
    let least : IsLeastRecord (λ r. IsHeldAlive b held r × (top < r.number)) (Some x) = (
      (s.alive, up),
      λ r h. ⊎_elim
          (λ (u : x.number < r.number). inr u)
          (λ (u : r.number ≤ x.number).
          let le : x.number ≤ r.number = after r h.0 h.1 in
          let e : r.number ≡ x.number = omega arith in
          inl (one_number b.cuts b.complete held (view_of b book) form.rising r x h.0.0 s.alive.0 h.0.1 s.alive.1 e))
          (cases_lt x.number r.number),
    ) in
    record {
      chain = straight_next b held from top x c.chain least s.back;
      closed = λ z h lt l.
          let le : top ≤ z.back = c.closed z h (omega arith) l in
          ⊎_elim
          (λ (over : top < z.back).
          let t = linked_above b held from top low z.back l over in
          let e : t.0.number ≡ z.back = t.2 in
          subst (λ (n : ℕ). x.number ≤ n) e (after t.0 t.1 (omega arith)))
          (λ (under : z.back ≤ top). absurd (second z h (let e : z.back ≡ top = omega arith in e) lt))
          (cases_lt top z.back);
    }

-- where no alive record has its end as backlink, the chain ends there
pub climbed_end : (b : BookData) (held : List RecordData) (from top : ℕ) → IsHeld held → Climbed b held from top
    → ((r : RecordData) → IsHeldAlive b held r → r.back ≡ top → ⊥) → IsStraightEnd b held from top
climbed_end b held from top form c none = record {
  linked = c.chain.linked;
  most = most;
  straight = c.chain.is;
}
  where
    most : (m : ℕ) → IsLinkedFrom b held from m → m ≤ top
    most m start = link_at_least b.cuts held b.complete from top c.chain.linked
    most m (next z h a l p) = ⊎_elim
        (λ (over : top < z.number). absurd (
        let le : top ≤ z.back = c.closed z (h, a) over p in
        let ge : z.back ≤ top = most z.back p in
        none z (h, a) (let e : z.back ≡ top = omega arith in e)))
        (λ (under : z.number ≤ top). under)
        (cases_lt top z.number)

-- the first record of a chain that goes on
first_step : (b : BookData) (held : List RecordData) (top m : ℕ) → IsHeld held → IsLinkedFrom b held top m
    → (m ≡ top) ⊎ ((w : RecordData) × IsHeldAlive b held w × (w.back ≡ top) × (w.number ≤ m))
first_step b held top m form start = inl refl
first_step b held top m form (next z h a l p) = ⊎_elim
    (λ (e : z.back ≡ top). inr (z, (h, a), e, omega arith))
    (λ (w : (w : RecordData) × IsHeldAlive b held w × (w.back ≡ top) × (w.number ≤ z.back)).
    let le : w.0.number ≤ z.back = w.3 in
    let below : z.back < z.number = back_below z (form.shaped z h) in
    inr (w.0, w.1, w.2, omega arith))
    (first_step b held top z.back form p)

-- an orphan record below the next record
pub not_over_stray : (b : BookData) (held : List RecordData) (from top n : ℕ) (x y : RecordData) → IsHeld held → Climbed b held from top → IsStep b held top x
    → IsHeldAlive b held y → top < y.number → y.number < x.number → IsStraightEnd b held from n → ⊥
not_over_stray b held from top n x y form c s h lt below end =
    let low : from ≤ top = link_at_least b.cuts held b.complete from top c.chain.linked in
    let far : x.number ≤ n = end.most x.number (step_linked b held from top x form c.chain s) in
    let linked : IsLinkedFrom b held from y.number = end.straight.linked y h (omega arith) (omega arith) in
    let onward : IsLinkedFrom b held top y.number = end.straight.onward top y.number c.chain.linked linked (omega arith) (omega arith) in
    ⊎_elim
    (λ (e : y.number ≡ top). omega arith)
    (λ (w : (w : RecordData) × IsHeldAlive b held w × (w.back ≡ top) × (w.number ≤ y.number)).
    let le : w.0.number ≤ y.number = w.3 in
    ⊎_elim
    (λ (e : w.0 ≡ x). let same : w.0.number ≡ x.number = ap (λ (r : RecordData). r.number) e in omega arith)
    (λ (u : x.number < w.0.number). omega arith)
    (s.first w.0 w.1 w.2))
    (first_step b held top y.number form onward)

-- a fork
pub not_over_fork : (b : BookData) (held : List RecordData) (from top n : ℕ) (x y : RecordData) → IsBook b → IsHeld held → Climbed b held from top → IsStep b held top x
    → IsHeldAlive b held y → y.back ≡ top → x.number < y.number → IsStraightEnd b held from n → ⊥
not_over_fork b held from top n x y book form c s h back lt end =
    let low : from ≤ top = link_at_least b.cuts held b.complete from top c.chain.linked in
    let up : top < x.number = step_up b held top x form s in
    let linked : IsLinkedFrom b held from y.number = next y h.0 h.1 (omega arith) (subst (IsLinkedFrom b held from) (sym back) c.chain.linked) in
    let onward : IsLinkedFrom b held x.number y.number = end.straight.onward x.number y.number (step_linked b held from top x form c.chain s) linked (omega arith) (end.most y.number linked) in
    let down : x.number ≤ y.back = link_at_least b.cuts held b.complete x.number y.back
    (link_down b.cuts held b.complete x.number (view_of b book) form.rising y h.0 h.1 lt onward) in
    omega arith

-- ---- from the contract of the search
pub step_of : (b : BookData) (held : List RecordData) (top : ℕ) (key : Key) → IsBook b → IsHeld held → (found : IsAliveOfBack b held top (key_in 0 0) (Some key))
    → IsStep b held top found.0.0
step_of b held top key book form found = record {
  alive = found.0.1;
  back = found.0.2;
  first = λ r h e. ⊎_elim
      (λ (k : HasKey key r). inl (same_key r h k))
      (λ (p : KeyBefore key (key_of r)). inr (number_before b.cuts b.complete (view_of b book) found.0.0 r found.0.1.1 h.1 (key_before r p)))
      (found.1 r h e (from_zero held r form h.0));
}
  where
    key_before : (r : RecordData) → KeyBefore key (key_of r) → RecordBefore found.0.0 r
    key_before r p = subst (λ (e : ℕ). KeyBefore (key_in e found.0.0.number) (key_of r)) (sym found.0.3.0) (subst (λ (n : ℕ). KeyBefore (key_in key.epoch n) (key_of r)) (sym found.0.3.1) p)

    same_key : (r : RecordData) → IsHeldAlive b held r → HasKey key r → r ≡ found.0.0
    same_key r h k = one_number b.cuts b.complete held (view_of b book) form.rising r found.0.0 h.0 found.0.1.0 h.1 found.0.1.1 (k.1 ∙ sym found.0.3.1)

-- a record with a higher LSN has a higher key
pub key_after : (b : BookData) (held : List RecordData) (key : Key) (x r : RecordData) → IsBook b → IsHeld held → IsHeldAlive b held x → HasKey key x → IsHeldAlive b held r
    → x.number < r.number → KeyBefore key (key_of r)
key_after b held key x r book form hx k hr lt = ⊎_elim
    (λ (e : x ≡ r). absurd (let same : x.number ≡ r.number = ap (λ (y : RecordData). y.number) e in omega arith))
    (λ (o : RecordBefore x r ⊎ RecordBefore r x). ⊎_elim
    (λ (u : RecordBefore x r). subst (λ (e : ℕ). KeyBefore (key_in e key.number) (key_of r)) k.0 (subst (λ (n : ℕ). KeyBefore (key_in x.epoch n) (key_of r)) k.1 u))
    (λ (u : RecordBefore r x). absurd (let low : r.number < x.number = number_before b.cuts b.complete (view_of b book) r x hr.1 hx.1 u in omega arith))
    o)
    (rising_members RecordBefore held x r form.rising hx.0 hr.0)
