-- An image that is inserted among images that rise by page.
use Rattle.std.proofs.Common.{◌≡◌, ◌≢◌, ℕ, zero, suc, ◌<◌, ◌≤◌, inl, inr, ⊎_elim, List, [], ◌∷◌, length, get_or, set, take, drop, refl, sym, ap, ◌∙◌, subst, arith, true, false, nat_lt, rules}
use Rattle.std.proofs.lemmas.Grind.{common_steps}
use Rattle.std.specs.List.{Contains, AllByRecursion, insert}
use Rattle.std.specs.List.Sorted.{IsPartitionedBy, IsPartitionPoint}
use Rattle.std.proofs.lemmas.List.Elements.{All-from_recursion}
use Rattle.redo_core.specs.Order.{IsRising}
use Rattle.redo_core.proofs.Members.{here, there, which, each, all_of, contains_insert}
use Rattle.redo_core.proofs.Rising.{side, rising_insert}
use Rattle.redo_core.specs.Store.{StoredImage, PageBefore, PutsImage}
use Rattle.page_base.specs.Placing.{SplitsAt, IsInsertionPoint}
use Rattle.page_base.proofs.Lists.{from_place, in_set}

rising_at : (xs : List StoredImage) (i j : ℕ) (d e : StoredImage) → IsRising PageBefore xs → i < j → j < length xs → (get_or xs i d).page < (get_or xs j e).page
rising_at [] i j d e r l m = absurd (omega (arith, m))
rising_at (x ∷ xs) zero zero d e r l m = absurd (omega (arith, l))
rising_at (x ∷ xs) (suc i) zero d e r l m = absurd (omega (arith, l))
rising_at (x ∷ xs) zero (suc j) d e r l m = All-from_recursion (PageBefore x) xs r.0 j e (omega (arith, m))
rising_at (x ∷ xs) (suc i) (suc j) d e r l m = rising_at xs i j d e r.1 (omega (arith, l)) (omega (arith, m))

-- rising images part at any page
pub parted : (page : ℕ) (images : List StoredImage) → IsRising PageBefore images → IsPartitionedBy (λ i. nat_lt i.page page) images
parted page images rising i j d le lt h = search (rules, rising_at)

pub split : (page : ℕ) (images : List StoredImage) (place : ℕ) → place ≤ length images
    → IsPartitionPoint (λ (i : StoredImage). nat_lt i.page page ≡ true) (λ i. nat_lt i.page page ≡ false) images place → SplitsAt page images place
split page images place le point = grind (arith, common_steps)

-- no image is of a page where the one at the page's index is of another
pub gap_before : (page : ℕ) (images : List StoredImage) (place : ℕ) (x : StoredImage) → IsRising PageBefore images → SplitsAt page images place
    → place < length images → x ≡ get_or images place x → (x.page ≡ page → ⊥) → IsInsertionPoint page images place
gap_before page images place x rising s l e other = record {
  bound = s.bound;
  below = s.below;
  above = λ i h.
      let high : page ≤ x.page = s.rest x (first_from images place x l e) in
      ⊎_elim
      (λ (q : x ≡ i). subst (λ (y : StoredImage). page < y.page) q (omega arith))
      (λ (q : PageBefore x i). let lt : x.page < i.page = q in omega arith)
      (from_place PageBefore images place x i rising l e h);
}
  where
    first_from : (xs : List StoredImage) (k : ℕ) (y : StoredImage) → k < length xs → y ≡ get_or xs k y → Contains (drop k xs) y
    first_from [] k y l e = absurd (omega (arith, l))
    first_from (z ∷ zs) zero y l e = (0, l, sym e)
    first_from (z ∷ zs) (suc k) y l e = first_from zs k y (omega (arith, l)) e

-- an image put into a gap
pub put_in_gap : (images : List StoredImage) (place : ℕ) (x : StoredImage) → IsRising PageBefore images → IsInsertionPoint x.page images place
    → PutsImage images x (insert images place x)
put_in_gap images place x rising gap = record {
  rising = rising_insert PageBefore images place x rising gap.below gap.above;
  members = λ i. (
    λ h. ⊎_elim (λ (q : Contains images i). inr (q, apart i q)) (λ (e : i ≡ x). inl e) ((contains_insert images place x i).0 h),
    λ h. (contains_insert images place x i).1 (⊎_elim (λ (e : i ≡ x). inr e) (λ q. inl q.0) h),
  );
}
  where
    apart : (i : StoredImage) → Contains images i → i.page ≢ x.page
    apart i h e =
        ⊎_elim
        (λ (q : Contains (take place images) i). let lt : i.page < x.page = gap.below i q in omega arith)
        (λ (q : Contains (drop place images) i). let lt : x.page < i.page = gap.above i q in omega arith)
        (side place images i h)

-- an image that replaces its page's
set_over : (images : List StoredImage) (place : ℕ) (x : StoredImage) → IsRising PageBefore images → place < length images
    → ((i : StoredImage) → i ≡ get_or images place i → i.page ≡ x.page) → PutsImage images x (set images place x)
set_over [] place x rising l own = absurd (omega (arith, l))
set_over (z ∷ zs) zero x rising l own =
    let same : z.page ≡ x.page = own z refl in
    record {
      rising = (all_of (PageBefore x) zs (λ y h. let lt : z.page < y.page = each (PageBefore z) zs y rising.0 h in omega arith), rising.1);
      members = λ i. (
        λ h. ⊎_elim
            (λ (e : x ≡ i). inl (sym e))
            (λ (q : Contains zs i). inr (there z zs i q, λ e. let lt : z.page < i.page = each (PageBefore z) zs i rising.0 q in omega arith))
            (which x zs i h),
        λ h. ⊎_elim
            (λ (e : i ≡ x). subst (Contains (x ∷ zs)) (sym e) (here x zs))
            (λ (q : Contains (z ∷ zs) i × (i.page ≢ x.page)). ⊎_elim (λ (e : z ≡ i). absurd (q.1 (ap (λ (y : StoredImage). y.page) (sym e) ∙ same)))
            (λ (u : Contains zs i). there x zs i u) (which z zs i q.0))
            h,
      );
    }
set_over (z ∷ zs) (suc place) x rising l own =
    let put = set_over zs place x rising.1 (omega (arith, l)) own in
    let low : z.page < x.page = below_it zs place z x rising.0 (omega (arith, l)) own in
    record {
      rising = (
        all_of (PageBefore z) (set zs place x) (λ y h. ⊎_elim (λ (e : y ≡ x). subst (PageBefore z) (sym e) low)
            (λ (q : Contains zs y). each (PageBefore z) zs y rising.0 q) (in_set zs place x y h)),
        put.rising,
      );
      members = λ i. (
        λ h. ⊎_elim
            (λ (e : z ≡ i). inr (subst (Contains (z ∷ zs)) e (here z zs), λ q. let same : z.page ≡ i.page = ap (λ (y : StoredImage). y.page) e in omega arith))
            (λ (q : Contains (set zs place x) i). ⊎_elim (λ (e : i ≡ x). inl e) (λ (u : Contains zs i × (i.page ≢ x.page)). inr (there z zs i u.0, u.1))
            ((put.members i).0 q))
            (which z (set zs place x) i h),
        λ h. ⊎_elim
            (λ (e : i ≡ x). there z (set zs place x) i ((put.members i).1 (inl e)))
            (λ (q : Contains (z ∷ zs) i × (i.page ≢ x.page)). ⊎_elim (λ (e : z ≡ i). subst (Contains (z ∷ set zs place x)) e (here z (set zs place x)))
            (λ (u : Contains zs i). there z (set zs place x) i ((put.members i).1 (inr (u, q.1)))) (which z zs i q.0))
            h,
      );
    }
  where
    below_it : (ys : List StoredImage) (k : ℕ) (u y : StoredImage) → AllByRecursion (PageBefore u) ys → k < length ys
        → ((i : StoredImage) → i ≡ get_or ys k i → i.page ≡ y.page) → u.page < y.page
    below_it [] k u y all l own = absurd (omega (arith, l))
    below_it (w ∷ ws) zero u y all l own = let lt : u.page < w.page = all.0 in let same : w.page ≡ y.page = own w refl in omega arith
    below_it (w ∷ ws) (suc k) u y all l own = below_it ws k u y all.1 (omega (arith, l)) own

pub put_over : (images : List StoredImage) (place : ℕ) (x : StoredImage) → IsRising PageBefore images
    → (place < length images) × ((i : StoredImage) → i ≡ get_or images place i → i.page ≡ x.page) → PutsImage images x (set images place x)
put_over images place x rising at = set_over images place x rising at.0 at.1
