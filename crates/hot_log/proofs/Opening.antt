-- A walk over the keys of later epochs.
use Rattle.std.proofs.Common.{◌≡◌, ℕ, ◌<◌, ◌≤◌, ◌⊎◌, inl, ⊎_elim, List, [], ◌∷◌, ap, sym, subst, arith, None}
use Rattle.std.specs.List.{Contains}
use Rattle.std.specs.declared.cmp.Ordering.TheVariants.{Less}
use Rattle.redo_core.specs.Data.{RecordData}
use Rattle.redo_core.specs.Shape.{record_fault}
use Rattle.redo_core.specs.Keys.{key_in, key_of, key_cmp, KeyBefore}
use Rattle.redo_core.specs.Order.{IsRising}
use Rattle.redo_core.proofs.Members.{none_in, there, here, which, each}
use Rattle.epoch_book.specs.Book.{BookData}
use Rattle.hot_log.specs.Held.{IsHeld, HasKey}
use Rattle.hot_log.specs.Alive.{IsOpenedBelow}
use Rattle.hot_log.specs.Indexing.{AreHeldAbove}
use Rattle.hot_log.proofs.Orders.{key_less}
use Rattle.hot_log.proofs.Keyed.{Entry}

-- the keys that are left: of stored records of later epochs, and each that such a search is for is among them
pub record AreLater (b : BookData) (held : List RecordData) (epoch number : ℕ) (left : List Entry) : Type 0 where
  pub listed : (r : RecordData) → IsOpenedBelow b held epoch number r → Contains left (key_of r, r)
  pub backed : (e : Entry) → Contains left e → Contains held e.1 × HasKey e.0 e.1 × (epoch < e.1.epoch)
  pub rising : IsRising (λ x y. key_cmp x.0 y.0 ≡ Less) left

small : (r : RecordData) → record_fault r ≡ None → r.number ≤ 18446744073709551615
small r h = grind arith

later : (epoch : ℕ) (r : RecordData) → r.number ≤ 18446744073709551615 → KeyBefore (key_in epoch 18446744073709551615) (key_of r) → epoch < r.epoch
later epoch r le p = grind arith

pub all_left : (b : BookData) (held : List RecordData) (epoch number : ℕ) (left : List Entry) → IsHeld held → AreHeldAbove held (key_in epoch 18446744073709551615) left → AreLater b held epoch number left
all_left b held epoch number left form above = record {
  listed = λ r h. above.listed r h.0.0 (inl h.1);
  backed = λ e h. let t = above.backed e h in (t.0, t.1, later epoch e.1 (small e.1 (form.shaped e.1 t.0)) t.2);
  rising = above.rising;
}

abbrev own : RecordData → Entry
own r = (key_of r, r)

module _ (b : BookData) (held : List RecordData) (epoch number : ℕ) (x : Entry) (left rest : List Entry) (is : left ≡ x ∷ rest) (l : AreLater b held epoch number left) where
  -- one that is searched for is the first, or after it
  first_or_behind : (r : RecordData) → IsOpenedBelow b held epoch number r → (x ≡ own r) ⊎ Contains rest (own r)
  first_or_behind r h = which x rest (own r) (subst (λ (m : List Entry). Contains m (own r)) is (l.listed r h))

  pub left_behind : (IsOpenedBelow b held epoch number x.1 → ⊥) → AreLater b held epoch number rest
  left_behind never = record {
    listed = λ r h. ⊎_elim
        (λ (e : x ≡ own r). absurd (never (subst (IsOpenedBelow b held epoch number) (ap (λ (y : Entry). y.1) (sym e)) h)))
        (λ (u : Contains rest (own r)). u)
        (first_or_behind r h);
    backed = λ e h. l.backed e (subst (λ (m : List Entry). Contains m e) (sym is) (there x rest e h));
    rising = (subst (IsRising (λ x y. key_cmp x.0 y.0 ≡ Less)) is l.rising).1;
  }

  pub first_is_stored : Contains held x.1 × HasKey x.0 x.1 × (epoch < x.1.epoch)
  first_is_stored = l.backed x (subst (λ (m : List Entry). Contains m x) (sym is) (here x rest))

  -- what waits is not alive
  pub none_behind_waits : b.complete < x.0.epoch → (r : RecordData) → IsOpenedBelow b held epoch number r → ⊥
  none_behind_waits over r h =
      let known : r.epoch ≤ b.complete = h.0.1.known in
      ⊎_elim
      (λ (e : x ≡ own r). let same : x.0.epoch ≡ r.epoch = ap (λ (y : Entry). y.0.epoch) e in omega arith)
      (λ (u : Contains rest (own r)).
      let p : KeyBefore x.0 (key_of r) = key_less x.0 (key_of r) (each (λ (y : Entry). key_cmp x.0 y.0 ≡ Less) rest (own r) (subst (IsRising (λ x y. key_cmp x.0 y.0 ≡ Less)) is l.rising).0 u) in
      grind arith)
      (first_or_behind r h)

pub none_left : (b : BookData) (held : List RecordData) (epoch number : ℕ) (left : List Entry) → left ≡ [] → AreLater b held epoch number left → (r : RecordData) → IsOpenedBelow b held epoch number r → ⊥
none_left b held epoch number left is l r h = none_in (own r) (subst (λ (m : List Entry). Contains m (own r)) is (l.listed r h))
