-- The least of the pages that are stored.
use Rattle.std.proofs.Common.{◌≡◌, ℕ, ◌<◌, ◌≤◌, ◌⊎◌, ◌↔◌, inl, inr, ⊎_elim, List, length, get_or, take, Option, Some, None, zero, suc, [], ◌∷◌, true, false, nat_le, refl, sym, ap, subst, arith, rules}
use Rattle.std.proofs.lemmas.Grind.{common_steps}
use Rattle.std.specs.List.{Contains, All}
use Rattle.std.specs.List.Sorted.{IsPartitionedBy, IsPartitionPoint}
use Rattle.std.proofs.lemmas.List.Elements.{All-from_recursion}
use Rattle.redo_core.specs.Data.{RecordData}
use Rattle.redo_core.specs.Order.{IsRising}
use Rattle.redo_core.specs.Store.{PageBefore, StoredImage}
use Rattle.redo_core.proofs.Scans.{whole}
use Rattle.epoch_book.proofs.Rising.{first_place}
use Rattle.hot_log.specs.Found.{IsLeast, IsPageAbove, IsPageAfter}
use Rattle.segment_theorems.specs.State.{State}
use Rattle.segment_core.proofs.Scanning.{of_member}
use Rattle.segment_core.specs.StoredPages.{IsImageOf, IsStoredPage, BeginsAbove}

-- the first image above a page is of the least such page
pub least_image : (images : List StoredImage) (after : Option ℕ) (i : ℕ) (x : StoredImage) → IsRising PageBefore images → i < length images
    → x ≡ get_or images i x → IsPageAbove after x.page → All (λ y. IsPageAbove after y.page → ⊥) (take i images)
    → IsLeast (λ g. IsImageOf images g × IsPageAbove after g) (Some x.page)
least_image images after i x rising lt is above none =
    let first = first_place PageBefore (λ y. IsPageAbove after y.page) images i x rising lt is above none in (
      ((x, first.has.0, refl), above),
      λ m h. ⊎_elim
          (λ (e : h.0.0 ≡ x). let p : h.0.0.page ≡ x.page = ap (λ (y : StoredImage). y.page) e in omega (arith, p, h.0.2))
          (λ (lower : x.page < h.0.0.page). omega (arith, lower, h.0.2))
          (first.least h.0.0 (h.0.1, subst (IsPageAbove after) (sym h.0.2) h.1)),
    )

pub no_image : (images : List StoredImage) (after : Option ℕ) (i : ℕ) → length images ≤ i → All (λ y. IsPageAbove after y.page → ⊥) (take i images)
    → IsLeast (λ g. IsImageOf images g × IsPageAbove after g) None
no_image images after i end none = λ m h.
    of_member (λ y. IsPageAbove after y.page → ⊥) images (whole (λ y. IsPageAbove after y.page → ⊥) images i end none) h.0.0 h.0.1
    (subst (IsPageAbove after) (sym h.0.2) h.1)

-- a stored record writes the page
abbrev pub IsWrittenPage : List RecordData → ℕ → Type 0
IsWrittenPage held page = (r : RecordData) × Contains held r × (r.page ≡ page)

least_written : (held : List RecordData) (after next : Option ℕ) → IsPageAfter held after next → IsLeast (λ g. IsWrittenPage held g × IsPageAbove after g) next
least_written held after next is = search rules

reached : (P : ℕ → Type 0) (least : Option ℕ) (n : ℕ) → IsLeast P least → P n → (g : ℕ) × (least ≡ Some g) × (g ≤ n)
reached P least n is p = search rules

holds_at : (P : ℕ → Type 0) (least : Option ℕ) (g : ℕ) → IsLeast P least → least ≡ Some g → P g
holds_at P least g is e = (subst (IsLeast P) e is).0

-- the least of two leasts
least_of_both : (P Q : ℕ → Type 0) (one other least : Option ℕ) → IsLeast P one → IsLeast Q other
    → IsLeast (λ g. (one ≡ Some g) ⊎ (other ≡ Some g)) least → IsLeast (λ g. P g ⊎ Q g) least
least_of_both P Q one other None a b is = λ n h.
    ⊎_elim
    (λ (p : P n). let t = reached P one n a p in is t.0 (inl t.1))
    (λ (q : Q n). let t = reached Q other n b q in is t.0 (inr t.1))
    h
least_of_both P Q one other (Some g) a b is = (
  ⊎_elim (λ (e : one ≡ Some g). inl (holds_at P one g a e)) (λ (e : other ≡ Some g). inr (holds_at Q other g b e)) is.0,
  λ n h. ⊎_elim
      (λ (p : P n). let t = reached P one n a p in let le : g ≤ t.0 = is.1 t.0 (inl t.1) in omega (arith, le, t.2))
      (λ (q : Q n). let t = reached Q other n b q in let le : g ≤ t.0 = is.1 t.0 (inr t.1) in omega (arith, le, t.2))
      h,
)

least_as : (P Q : ℕ → Type 0) (least : Option ℕ) → ((g : ℕ) → P g ↔ Q g) → IsLeast P least → IsLeast Q least
least_as P Q least same is = search rules

pub least_stored : (s : State) (after one other least : Option ℕ) → IsLeast (λ g. IsImageOf s.store.images g × IsPageAbove after g) one
    → IsPageAfter s.held after other → IsLeast (λ g. (one ≡ Some g) ⊎ (other ≡ Some g)) least
    → IsLeast (λ g. IsStoredPage s g × IsPageAbove after g) least
least_stored s after one other least a b is =
    let P : ℕ → Type 0 = λ g. IsImageOf s.store.images g × IsPageAbove after g in
    let Q : ℕ → Type 0 = λ g. IsWrittenPage s.held g × IsPageAbove after g in
    least_as (λ g. P g ⊎ Q g) (λ g. IsStoredPage s g × IsPageAbove after g) least
    (λ g. (
      λ h. ⊎_elim (λ (p : P g). (inl p.0, p.1)) (λ (q : Q g). (inr q.0, q.1)) h,
      λ h. ⊎_elim (λ (p : IsImageOf s.store.images g). inl (p, h.1)) (λ (q : IsWrittenPage s.held g). inr (q, h.1)) h.0,
    ))
    (least_of_both P Q one other least a (least_written s.held after other b) is)

-- images part at the first that is of a page above
pub parted : (page : ℕ) (images : List StoredImage) → IsRising PageBefore images → IsPartitionedBy (λ i. nat_le i.page page) images
parted page images rising i j d le lt h =
    ⊎_elim
    (λ (e : i ≡ j). subst (λ n. nat_le (get_or images n d).page page ≡ true) (sym e) h)
    (λ (l : i < j).
    let low : (get_or images i d).page < (get_or images j d).page = rising_at images i j d d rising l lt in
    let high : (get_or images j d).page ≤ page = at_most_true page (get_or images j d) h in
    at_most_of page (get_or images i d) (omega (arith, low, high)))
    (let t : (i ≡ j) ⊎ (i < j) = grind arith in t)
  where
    at_most_true : (page : ℕ) (i : StoredImage) → nat_le i.page page ≡ true → i.page ≤ page
    at_most_true page i h = grind arith

    at_most_of : (page : ℕ) (i : StoredImage) → i.page ≤ page → nat_le i.page page ≡ true
    at_most_of page i h = grind arith

    rising_at : (xs : List StoredImage) (i j : ℕ) (d e : StoredImage) → IsRising PageBefore xs → i < j → j < length xs
        → (get_or xs i d).page < (get_or xs j e).page
    rising_at [] i j d e r l m = absurd (omega (arith, m))
    rising_at (x ∷ xs) zero zero d e r l m = absurd (omega (arith, l))
    rising_at (x ∷ xs) (suc i) zero d e r l m = absurd (omega (arith, l))
    rising_at (x ∷ xs) zero (suc j) d e r l m = All-from_recursion (PageBefore x) xs r.0 j e (omega (arith, m))
    rising_at (x ∷ xs) (suc i) (suc j) d e r l m = rising_at xs i j d e r.1 (omega (arith, l)) (omega (arith, m))

pub begins_above : (page : ℕ) (images : List StoredImage) (place : ℕ) → place ≤ length images
    → IsPartitionPoint (λ (i : StoredImage). nat_le i.page page ≡ true) (λ i. nat_le i.page page ≡ false) images place
    → BeginsAbove (Some page) images place
begins_above page images place le point = grind (arith, common_steps)

pub begins_first : (images : List StoredImage) → BeginsAbove None images 0
begins_first images = omega arith
