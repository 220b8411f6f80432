-- A walk over the stored keys above one, and the records with P that it has passed.
use Rattle.std.proofs.Common.{◌≡◌, ◌⊎◌, inl, inr, ⊎_elim, List, [], ◌∷◌, ◌++◌, ap, sym, ◌∙◌, subst, arith, rules}
use Rattle.std.specs.List.{Contains}
use Rattle.std.specs.declared.cmp.Ordering.TheVariants.{Less}
use Rattle.redo_core.specs.Data.{RecordData}
use Rattle.redo_core.specs.Keys.{key_of, key_cmp, KeyBefore}
use Rattle.redo_core.specs.declared.keys.Key.{Key}
use Rattle.redo_core.specs.Order.{IsRising, Lists, RecordBefore}
use Rattle.redo_core.proofs.Members.{none_in, there, here, which, each}
use Rattle.redo_core.proofs.Listing.{lists_push, lists_as}
use Rattle.hot_log.specs.Held.{HasKey, IsHeld}
use Rattle.hot_log.specs.Indexing.{AreHeldAbove}
use Rattle.hot_log.proofs.Indexed.{one_key}
use Rattle.hot_log.proofs.Orders.{key_less}
use Rattle.hot_log.proofs.Keyed.{Entry}
use Rattle.hot_log.proofs.Places.{pair_or_not}

abbrev own : RecordData → Entry
own r = (key_of r, r)

-- one that a walk up to a key has passed
abbrev pub IsPassedBy : (RecordData → Type 0) → Key → RecordData → Type 0
IsPassedBy P at r = P r × (KeyBefore at (key_of r) → ⊥)

module _ (held : List RecordData) (at : Key) (x : Entry) (left rest : List Entry) (is : left ≡ x ∷ rest) (a : AreHeldAbove held at left) where
  pub first_stored : Contains held x.1 × HasKey x.0 x.1
  first_stored = let t = a.backed x (subst (λ (m : List Entry). Contains m x) (sym is) (here x rest)) in (t.0, t.1)

  first_above : KeyBefore at x.0
  first_above = let t = a.backed x (subst (λ (m : List Entry). Contains m x) (sym is) (here x rest)) in let k = t.1 in let up = t.2 in grind arith

  behind : (e : Entry) → Contains rest e → KeyBefore x.0 e.0
  behind e h = key_less x.0 e.0 (each (λ (y : Entry). key_cmp x.0 y.0 ≡ Less) rest e (subst (IsRising (λ x y. key_cmp x.0 y.0 ≡ Less)) is a.rising).0 h)

  -- a stored record above is the first, or after it
  first_or_behind : (r : RecordData) → Contains held r → KeyBefore at (key_of r) → (x ≡ own r) ⊎ Contains rest (own r)
  first_or_behind r h p = which x rest (own r) (subst (λ (m : List Entry). Contains m (own r)) is (a.listed r h p))

  -- what is left of a walk is a walk from the last key
  pub on_from : AreHeldAbove held x.0 rest
  on_from = record {
    listed = λ r h p. ⊎_elim
        (λ (e : x ≡ own r). let n : x.0 ≡ key_of r = ap (λ (y : Entry). y.0) e in absurd (grind arith))
        (λ (u : Contains rest (own r)). u)
        (first_or_behind r h (let up = first_above in grind arith));
    backed = λ e h.
        let t = a.backed e (subst (λ (m : List Entry). Contains m e) (sym is) (there x rest e h)) in
        let k = t.1 in let low = behind e h in (t.0, t.1, grind arith);
    rising = (subst (IsRising (λ x y. key_cmp x.0 y.0 ≡ Less)) is a.rising).1;
  }

  module _ (P : RecordData → Type 0) (found : List RecordData) (form : IsHeld held) (has : (r : RecordData) → P r → Contains held r) (lists : Lists RecordBefore (IsPassedBy P at) found) where
    is_first : (r : RecordData) → P r → HasKey x.0 r → r ≡ x.1
    is_first r p k = let t = first_stored in one_key held form.rising r x.1 (has r p) t.0 (k.0 ∙ sym t.1.0) (k.1 ∙ sym t.1.1)

    -- a record with P that has been passed was before, or has the last key
    passed_before : (r : RecordData) → IsPassedBy P x.0 r → IsPassedBy P at r ⊎ HasKey x.0 r
    passed_before r h = ⊎_elim
        (λ (up : KeyBefore at (key_of r)). ⊎_elim
        (λ (e : x ≡ own r). inr (ap (λ (y : Entry). y.0.epoch) (sym e), ap (λ (y : Entry). y.0.number) (sym e)))
        (λ (u : Contains rest (own r)). absurd (h.1 (behind (own r) u)))
        (first_or_behind r (has r h.0) up))
        (λ (not : KeyBefore at (key_of r) → ⊥). inl (h.0, not))
        (pair_or_not at.epoch at.number r.epoch r.number)

    still_passed : (r : RecordData) → IsPassedBy P at r → IsPassedBy P x.0 r
    still_passed r h = (h.0, λ (up : KeyBefore x.0 (key_of r)). h.1 (let low = first_above in grind arith))

    pub one_more : P x.1 → Lists RecordBefore (IsPassedBy P x.0) (found ++ x.1 ∷ [])
    one_more own =
        let key = first_stored.1 in let low = first_above in
        lists_push RecordBefore (IsPassedBy P at) (IsPassedBy P x.0) found x.1 lists
        (λ r h. let not = h.1 in grind arith)
        (λ r. (
          λ h. ⊎_elim (λ u. inl u) (λ (k : HasKey x.0 r). inr (is_first r h.0 k)) (passed_before r h),
          λ h. ⊎_elim (still_passed r) (λ (e : r ≡ x.1). subst (IsPassedBy P x.0) (sym e) (own, λ (up : KeyBefore x.0 (key_of x.1)). grind arith)) h,
        ))

    pub none_more : (P x.1 → ⊥) → Lists RecordBefore (IsPassedBy P x.0) found
    none_more none = lists_as RecordBefore (IsPassedBy P at) (IsPassedBy P x.0) found (λ r. (
      λ h. still_passed r h,
      λ h. ⊎_elim (λ u. u) (λ (k : HasKey x.0 r). absurd (none (subst P (is_first r h.0 k) h.0))) (passed_before r h),
    )) lists

pub none_passed : (P : RecordData → Type 0) (at : Key) (found : List RecordData) → ((r : RecordData) → P r → KeyBefore at (key_of r)) → found ≡ [] → Lists RecordBefore (IsPassedBy P at) found
none_passed P at found above is = search rules

pub all_passed : (P : RecordData → Type 0) (held : List RecordData) (at : Key) (left : List Entry) (found : List RecordData) → AreHeldAbove held at left → left ≡ [] → ((r : RecordData) → P r → Contains held r)
    → Lists RecordBefore (IsPassedBy P at) found → Lists RecordBefore P found
all_passed P held at left found a is has lists = lists_as RecordBefore (IsPassedBy P at) P found (λ r. (
  λ h. h.0,
  λ h. (h, λ up. none_in (own r) (subst (λ (m : List Entry). Contains m (own r)) is (a.listed r (has r h) up))),
)) lists
