-- The version and image of a page in a store, by the index of the page's image, and after an image is put.
use Rattle.std.proofs.Common.{◌≡◌, ◌≢◌, ℕ, ◌<◌, ◌≤◌, inl, ⊎_elim, List, get_or, set, take, drop, refl, sym, ap, subst, arith, Ok, Err, rules}
use Rattle.std.specs.List.{Contains, insert}
use Rattle.redo_core.specs.Order.{IsRising}
use Rattle.redo_core.specs.Writing.{zeros}
use Rattle.log_theorems.proofs.Deciding.{settled_eq, some_or_none}
use Rattle.redo_core.specs.Store.{StoredImage, image_in, version_of, image_of, PageBefore, PutsImage}
use Rattle.log_theorems.proofs.Storing.{stored_images, elsewhere}
use Rattle.page_base.specs.Stored.{stored, store_of, IsBase}
use Rattle.page_base.specs.Placing.{IsPlace}
use Rattle.page_base.specs.Raising.{Raises}
use Rattle.redo_core.proofs.Rising.{side}
use Rattle.page_base.proofs.Putting.{put_over, put_in_gap}

pub at_place : (images : List StoredImage) (floor page place : ℕ) (x : StoredImage) → IsRising PageBefore images → IsPlace page images (Ok place)
    → x ≡ get_or images place x → (version_of (store_of images floor) page ≡ x.version) × (image_of (store_of images floor) page ≡ x.bytes)
at_place images floor page place x rising at e =
    subst (λ p. (version_of (store_of images floor) p ≡ x.version) × (image_of (store_of images floor) p ≡ x.bytes)) (at.1 x e)
    ((stored_images (store_of images floor) rising).0 x (place, at.0, sym e))

pub at_gap : (images : List StoredImage) (floor page place : ℕ) → IsRising PageBefore images → IsPlace page images (Err place)
    → (version_of (store_of images floor) page ≡ floor) × (image_of (store_of images floor) page ≡ zeros)
at_gap images floor page place rising gap =
    (stored_images (store_of images floor) rising).1 page
    (λ i h e. ⊎_elim
    (λ (q : Contains (take place images) i). let lt : i.page < page = gap.below i q in omega arith)
    (λ (q : Contains (drop place images) i). let lt : page < i.page = gap.above i q in omega arith)
    (side place images i h))

-- an image put at the index that was found for it
pub put_at : (from images : List StoredImage) (page place : ℕ) (x : StoredImage) → from ≡ images → page ≡ x.page → IsRising PageBefore images
    → IsPlace page from (Ok place) → PutsImage images x (set images place x)
put_at from images page place x same own rising at = search (rules, put_over)

pub put_between : (from images : List StoredImage) (page place : ℕ) (x : StoredImage) → from ≡ images → page ≡ x.page → IsRising PageBefore images
    → IsPlace page from (Err place) → PutsImage images x (insert images place x)
put_between from images page place x same own rising at = search (rules, put_in_gap)

unmoved : (old new : List StoredImage) (image : StoredImage) (floor page : ℕ) → IsRising PageBefore old → PutsImage old image new → page ≢ image.page
    → (version_of (store_of new floor) page ≡ version_of (store_of old floor) page) × (image_of (store_of new floor) page ≡ image_of (store_of old floor) page)
unfolding version_of image_of
unmoved old new image floor page rising put differs =
    let e : image_in new floor page ≡ image_in old floor page = elsewhere old new image floor page rising put differs in
    (ap (λ (i : StoredImage). i.version) e, ap (λ (i : StoredImage). i.bytes) e)

-- an image put above the page's own raises it
pub put_raises : (old new : List StoredImage) (floor page version : ℕ) (image : List ℕ) → IsRising PageBefore old
    → PutsImage old (stored page version image) new → version_of (store_of old floor) page < version
    → Raises (store_of old floor) page version image (store_of new floor)
put_raises old new floor page version image rising put above = record {
  lower = λ low. absurd (omega (arith, above, low));
  higher = λ _. record {
    version_is = own.0;
    image_is = own.1;
    others = λ other differs. unmoved old new (stored page version image) floor other rising put differs;
    floor = refl;
    stored_as = put;
  };
}
  where
    own : (version_of (store_of new floor) page ≡ version) × (image_of (store_of new floor) page ≡ image)
    own = (stored_images (store_of new floor) put.rising).0 (stored page version image) ((put.members (stored page version image)).1 (inl refl))

-- no version is below the default one
pub above_floor : (images : List StoredImage) (floor page : ℕ) → IsBase images floor → floor ≤ version_of (store_of images floor) page
above_floor images floor page base =
    ⊎_elim
    (λ (s : (i : StoredImage) × Contains images i × (i.page ≡ page)).
    let e : version_of (store_of images floor) s.0.page ≡ s.0.version = ((stored_images (store_of images floor) base.rising).0 s.0 s.1).0 in
    let high : floor ≤ s.0.version = base.high s.0 s.1 in
    subst (λ p. floor ≤ version_of (store_of images floor) p) s.2 (omega arith))
    (λ (none : (i : StoredImage) → Contains images i → i.page ≡ page → ⊥).
    let e : version_of (store_of images floor) page ≡ floor = ((stored_images (store_of images floor) base.rising).1 page none).0 in
    omega arith)
    (some_or_none (λ (i : StoredImage). i.page ≡ page) (λ i. settled_eq i.page page) images)

pub put_keeps : (old new : List StoredImage) (floor page version : ℕ) (image : List ℕ) → IsBase old floor
    → PutsImage old (stored page version image) new → version_of (store_of old floor) page < version → IsBase new floor
put_keeps old new floor page version image base put above = record {
  rising = put.rising;
  high = λ i h.
      ⊎_elim
      (λ (e : i ≡ stored page version image).
      let own : i.version ≡ version = ap (λ (x : StoredImage). x.version) e in
      let low : floor ≤ version_of (store_of old floor) page = above_floor old floor page base in
      omega arith)
      (λ (q : Contains old i × (i.page ≢ page)). base.high i q.0)
      ((put.members i).0 h);
}

pub above_from : (from images : List StoredImage) (floor page version own : ℕ) → from ≡ images → own ≡ version_of (store_of from floor) page
    → own < version → version_of (store_of images floor) page < version
above_from from images floor page version own same is above = subst (λ l. version_of (store_of l floor) page < version) same (omega (arith, is, above))
