-- Stored images that rise by page.
use Rattle.std.proofs.Common.{◌≡◌, ◌≢◌, ℕ, ◌<◌, inr, ⊎_elim, List, [], ◌∷◌, refl, sym, ap, ◌∙◌, subst, arith, Bool, true, false, cond, rules}
use Rattle.std.specs.Prelude.{◌==◌}
use Rattle.std.specs.List.{Contains}
use Rattle.std.proofs.lemmas.Bool.Decides.{nat_tests}
use Rattle.redo_core.specs.Order.{IsRising}
use Rattle.redo_core.specs.Writing.{zeros}
use Rattle.redo_core.proofs.Members.{none_in, here, there, which, each}
use Rattle.redo_core.specs.Store.{Store, StoredImage, image_in, version_of, image_of, PageBefore, PutsImage}
use Rattle.log_theorems.proofs.Deciding.{settled_eq, some_or_none}

abbrev Absent : ℕ → ℕ → StoredImage
Absent floor page = record { page = page; version = floor; bytes = zeros }

taken : (b : Bool) (i j : StoredImage) → b ≡ true → cond b i j ≡ i
taken b i j e = cc

passed : (b : Bool) (i j : StoredImage) → b ≡ false → cond b i j ≡ j
passed b i j e = cc

pub found : (images : List StoredImage) (floor : ℕ) (i : StoredImage) → IsRising PageBefore images → Contains images i → image_in images floor i.page ≡ i
found [] floor i r h = absurd (none_in i h)
found (x ∷ xs) floor i r h =
    ⊎_elim
    (λ (e : x ≡ i). taken (x.page == i.page) x (image_in xs floor i.page) (let q : x.page ≡ i.page = ap (λ y. y.page) e in grind (arith, nat_tests)) ∙ e)
    (λ (q : Contains xs i).
    let lt : x.page < i.page = each (PageBefore x) xs i r.0 q in
    passed (x.page == i.page) x (image_in xs floor i.page) (grind (arith, nat_tests)) ∙ found xs floor i r.1 q)
    (which x xs i h)

pub missing : (images : List StoredImage) (floor page : ℕ) → ((i : StoredImage) → Contains images i → i.page ≢ page) → image_in images floor page ≡ Absent floor page
missing [] floor page none = refl
missing (x ∷ xs) floor page none =
    passed (x.page == page) x (image_in xs floor page) (let no : x.page ≢ page = none x (here x xs) in grind (arith, nat_tests))
    ∙ missing xs floor page (λ i h. none i (there x xs i h))

-- other pages have what they had
pub elsewhere : (old new : List StoredImage) (image : StoredImage) (floor page : ℕ) → IsRising PageBefore old → PutsImage old image new → page ≢ image.page → image_in new floor page ≡ image_in old floor page
elsewhere old new image floor page r put differs =
    ⊎_elim
    (λ (s : (i : StoredImage) × Contains old i × (i.page ≡ page)).
    let e : s.0.page ≡ page = s.2 in
    let inside : Contains new s.0 = (put.members s.0).1 (inr (s.1, λ q. differs (sym e ∙ q))) in
    subst (λ g. image_in new floor g ≡ image_in old floor g) e (found new floor s.0 put.rising inside ∙ sym (found old floor s.0 r s.1)))
    (λ (none : (i : StoredImage) → Contains old i → i.page ≡ page → ⊥).
    missing new floor page (λ i h q. ⊎_elim (λ (e : i ≡ image). differs (sym q ∙ ap (λ y. y.page) e)) (λ x. none i x.0 q) ((put.members i).0 h)) ∙ sym (missing old floor page none))
    (some_or_none (λ i. i.page ≡ page) (λ i. settled_eq i.page page) old)

pub stored_images : (store : Store) → IsRising PageBefore store.images
    → ((i : StoredImage) → Contains store.images i → (version_of store i.page ≡ i.version) × (image_of store i.page ≡ i.bytes))
    × ((page : ℕ) → ((i : StoredImage) → Contains store.images i → i.page ≢ page) → (version_of store page ≡ store.floor) × (image_of store page ≡ zeros))
unfolding version_of image_of
stored_images store r = search (rules, found, missing)

-- a page whose image is not put stays
pub unmoved : (old new : Store) (image : StoredImage) (page : ℕ) → IsRising PageBefore old.images → PutsImage old.images image new.images → new.floor ≡ old.floor → page ≢ image.page → (version_of new page ≡ version_of old page) × (image_of new page ≡ image_of old page)
unfolding version_of image_of
unmoved old new image page r put floor differs =
    let e : image_in new.images new.floor page ≡ image_in old.images old.floor page = subst (λ f. image_in new.images f page ≡ image_in old.images old.floor page) (sym floor) (elsewhere old.images new.images image old.floor page r put differs) in
    (ap (λ y. y.version) e, ap (λ y. y.bytes) e)
