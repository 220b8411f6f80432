-- What is left of images after an adoption, and how adoptions follow one another.
use Rattle.std.proofs.Common.{◌≡◌, ◌≢◌, ℕ, ◌<◌, ◌≤◌, ◌⊎◌, inl, ⊎_elim, List, [], ◌∷◌, refl, sym, ap, ◌∙◌, subst, arith, Bool, true, max, nat_le}
use Rattle.std.specs.List.{Contains, filter}
use Rattle.std.proofs.lemmas.Bool.Decides.{nat_tests}
use Rattle.redo_core.specs.Order.{IsRising}
use Rattle.redo_core.specs.Writing.{zeros}
use Rattle.redo_core.proofs.Members.{none_in, which, each, filtered, passed}
use Rattle.redo_core.proofs.Rising.{rising_filter}
use Rattle.log_theorems.proofs.Deciding.{settled_eq, some_or_none}
use Rattle.redo_core.specs.Store.{StoredImage, version_of, image_of, PageBefore}
use Rattle.log_theorems.proofs.Storing.{stored_images}
use Rattle.page_base.specs.Stored.{store_of, IsBase}
use Rattle.page_base.specs.Adopting.{Adopts, StoresJust}

abbrev pub is_new : ℕ → StoredImage → Bool
is_new base i = nat_le base i.version

new_of : (base : ℕ) (i : StoredImage) → base ≤ i.version → is_new base i ≡ true
new_of base i h = grind (arith, nat_tests)

new_is : (base : ℕ) (i : StoredImage) → is_new base i ≡ true → base ≤ i.version
new_is base i h = grind (arith, nat_tests)

-- one page has one image among those that rise
one_image : (images : List StoredImage) (i j : StoredImage) → IsRising PageBefore images → Contains images i → Contains images j → i.page ≡ j.page → i ≡ j
one_image [] i j r h k e = absurd (none_in i h)
one_image (x ∷ xs) i j r h k e =
    ⊎_elim
    (λ (p : x ≡ i). ⊎_elim
    (λ (q : x ≡ j). sym p ∙ q)
    (λ (q : Contains xs j). absurd (let lt : x.page < j.page = each (PageBefore x) xs j r.0 q in let s : x.page ≡ i.page = ap (λ (y : StoredImage). y.page) p in
    omega arith))
    (which x xs j k))
    (λ (p : Contains xs i). ⊎_elim
    (λ (q : x ≡ j). absurd (let lt : x.page < i.page = each (PageBefore x) xs i r.0 p in let s : x.page ≡ j.page = ap (λ (y : StoredImage). y.page) q in
    omega arith))
    (λ (q : Contains xs j). one_image xs i j r.1 p q e)
    (which x xs j k))
    (which x xs i h)

-- a page whose image is kept, one whose image goes, and one that has none
record AfterFloor (images : List StoredImage) (floor base page : ℕ) : Type 0 where
  version : version_of (store_of (filter (is_new base) images) (max floor base)) page ≡ max (version_of (store_of images floor) page) base
  kept : base ≤ version_of (store_of images floor) page → image_of (store_of (filter (is_new base) images) (max floor base)) page ≡ image_of
      (store_of images floor) page
  taken : version_of (store_of images floor) page < base → image_of (store_of (filter (is_new base) images) (max floor base)) page ≡ zeros

after_kept : (images : List StoredImage) (floor base : ℕ) (i : StoredImage) → IsBase images floor → Contains images i → base ≤ i.version
    → AfterFloor images floor base i.page
after_kept images floor base i is h new =
    let old = (stored_images (store_of images floor) is.rising).0 i h in
    let now = (stored_images (store_of (filter (is_new base) images) (max floor base)) (rising_filter PageBefore (is_new base) images is.rising)).0 i
    (passed (is_new base) images i (new_of base i new) h) in
    record {
      version = (let a = old.0 in let b = now.0 in grind arith);
      kept = λ _. now.1 ∙ sym old.1;
      taken = λ below. absurd (let a = old.0 in omega (arith, a, below, new));
    }

after_gone : (images : List StoredImage) (floor base : ℕ) (i : StoredImage) → IsBase images floor → Contains images i → i.version < base
    → AfterFloor images floor base i.page
after_gone images floor base i is h below =
    let old = (stored_images (store_of images floor) is.rising).0 i h in
    let high : floor ≤ i.version = is.high i h in
    let now = (stored_images (store_of (filter (is_new base) images) (max floor base)) (rising_filter PageBefore (is_new base) images is.rising)).1 i.page
    (λ j k e. let m = filtered (is_new base) images j k in
    let same : i ≡ j = one_image images i j is.rising h m.0 (sym e) in
    let low : base ≤ i.version = subst (λ (x : StoredImage). base ≤ x.version) (sym same) (new_is base j m.1) in
    omega arith) in
    record {
      version = (let a = old.0 in let b = now.0 in grind arith);
      kept = λ above. absurd (let a = old.0 in omega (arith, a, above, below));
      taken = λ _. now.1;
    }

after_none : (images : List StoredImage) (floor base page : ℕ) → IsBase images floor → ((i : StoredImage) → Contains images i → i.page ≢ page)
    → AfterFloor images floor base page
after_none images floor base page is none =
    let old = (stored_images (store_of images floor) is.rising).1 page none in
    let now = (stored_images (store_of (filter (is_new base) images) (max floor base)) (rising_filter PageBefore (is_new base) images is.rising)).1 page
    (λ j k e. none j (filtered (is_new base) images j k).0 e) in
    record {
      version = (let a = old.0 in let b = now.0 in grind arith);
      kept = λ _. now.1 ∙ sym old.1;
      taken = λ _. now.1;
    }

after_floor : (images : List StoredImage) (floor base page : ℕ) → IsBase images floor → AfterFloor images floor base page
after_floor images floor base page is =
    ⊎_elim
    (λ (s : (i : StoredImage) × Contains images i × (i.page ≡ page)).
    subst (AfterFloor images floor base) s.2
    (⊎_elim
    (λ (new : base ≤ s.0.version). after_kept images floor base s.0 is s.1 new)
    (λ (old : s.0.version < base). after_gone images floor base s.0 is s.1 old)
    (let t : (base ≤ s.0.version) ⊎ (s.0.version < base) = grind arith in t)))
    (λ (none : (i : StoredImage) → Contains images i → i.page ≡ page → ⊥). after_none images floor base page is none)
    (some_or_none (λ (i : StoredImage). i.page ≡ page) (λ i. settled_eq i.page page) images)

-- where the images below the base are dropped, and the default version rises to it, zeros are adopted
pub floor_adopts : (images new : List StoredImage) (floor base raised : ℕ) → IsBase images floor → new ≡ filter (is_new base) images
    → raised ≡ max floor base → Adopts (store_of images floor) base [] (store_of new raised)
floor_adopts images new floor base raised is same top =
    subst (λ l. Adopts (store_of images floor) base [] (store_of l raised)) (sym same)
    (subst (λ n. Adopts (store_of images floor) base [] (store_of (filter (is_new base) images) n)) (sym top)
    (record {
      versions = λ page. (after_floor images floor base page is).version;
      kept = λ page. (after_floor images floor base page is).kept;
      taken = λ page. (after_floor images floor base page is).taken;
      floor = refl;
    }))

-- what is left was there
pub floor_stores : (images new : List StoredImage) (floor base raised : ℕ) → new ≡ filter (is_new base) images
    → StoresJust (store_of images floor) base [] (store_of new raised)
floor_stores images new floor base raised same i h = inl (filtered (is_new base) images i (subst (λ l. Contains l i) same h)).0

pub floor_keeps : (images new : List StoredImage) (floor base raised : ℕ) → IsBase images floor → new ≡ filter (is_new base) images
    → raised ≡ max floor base → IsBase new raised
floor_keeps images new floor base raised is same top =
    subst (λ l. IsBase l raised) (sym same)
    (record {
      rising = rising_filter PageBefore (is_new base) images is.rising;
      high = λ i h.
          let m = filtered (is_new base) images i h in
          let low : floor ≤ i.version = is.high i m.0 in
          let new : base ≤ i.version = new_is base i m.1 in
          grind arith;
    })
