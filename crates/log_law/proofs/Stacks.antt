-- What is left of a falling stack without the LSNs above lo.
use Rattle.std.proofs.Common.{◌≡◌, ℕ, ◌≤◌, ⊎_elim, List, [], ◌∷◌, refl, subst, arith, Bool, true, false, cond, rules}
use Rattle.std.specs.Prelude.{nat_lt}
use Rattle.std.specs.List.{Contains}
use Rattle.std.proofs.lemmas.Bool.{ltb-false}
use Rattle.redo_core.specs.Order.{IsRising}
use Rattle.redo_core.proofs.Members.{none_in, there, which, each}
use Rattle.log_law.specs.Alive.{without_above, NotBelow}
use Rattle.log_law.specs.declared.alive.Entry.{Entry}

falls_at : (lo : ℕ) (x : Entry) (xs : List Entry) (b : Bool) → IsRising NotBelow (x ∷ xs) → IsRising NotBelow (without_above lo xs)
    → IsRising NotBelow (cond b (without_above lo xs) (x ∷ xs))
falls_at lo x xs b r ih = search rules

pub above_falls : (lo : ℕ) (xs : List Entry) → IsRising NotBelow xs → IsRising NotBelow (without_above lo xs)
above_falls lo [] r = r
above_falls lo (x ∷ xs) r = falls_at lo x xs (nat_lt lo x.number) r (above_falls lo xs r.1)

left_at : (lo : ℕ) (x : Entry) (xs : List Entry) (y : Entry) (b : Bool) → nat_lt lo x.number ≡ b → IsRising NotBelow (x ∷ xs)
    → (Contains (without_above lo xs) y → Contains xs y × (y.number ≤ lo)) → Contains (cond b (without_above lo xs) (x ∷ xs)) y
    → Contains (x ∷ xs) y × (y.number ≤ lo)
left_at lo x xs y true t r ih h = let s = ih h in (there x xs y s.0, s.1)
left_at lo x xs y false t r ih h =
    let l : x.number ≤ lo = ltb-false lo x.number t in (
      h,
      ⊎_elim (λ (e : x ≡ y). subst (λ z. z.number ≤ lo) e l) (λ (k : Contains xs y). let m : y.number ≤ x.number = each (NotBelow x) xs y r.0 k in
          omega arith) (which x xs y h),
    )

pub above_left : (lo : ℕ) (xs : List Entry) (y : Entry) → IsRising NotBelow xs → Contains (without_above lo xs) y → Contains xs y × (y.number ≤ lo)
above_left lo [] y r h = absurd (none_in y h)
above_left lo (x ∷ xs) y r h = left_at lo x xs y (nat_lt lo x.number) refl r (above_left lo xs y r.1) h

kept_at : (lo : ℕ) (x : Entry) (xs : List Entry) (y : Entry) (b : Bool) → nat_lt lo x.number ≡ b → (Contains xs y → Contains (without_above lo xs) y)
    → Contains (x ∷ xs) y → y.number ≤ lo → Contains (cond b (without_above lo xs) (x ∷ xs)) y
kept_at lo x xs y b t ih h l = search rules

pub above_kept : (lo : ℕ) (xs : List Entry) (y : Entry) → Contains xs y → y.number ≤ lo → Contains (without_above lo xs) y
above_kept lo [] y h l = absurd (none_in y h)
above_kept lo (x ∷ xs) y h l = kept_at lo x xs y (nat_lt lo x.number) refl (λ k. above_kept lo xs y k l) h l
