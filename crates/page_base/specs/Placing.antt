-- The index of the image of a page among images that rise by page.
use Rattle.std.specs.Prelude.{◌≡◌, ℕ, ◌<◌, ◌≤◌, List, length, take, drop, slice_index_or, Result, Ok, Err}
use Rattle.std.specs.List.{Contains}
use Rattle.redo_core.specs.Store.{StoredImage}

-- the images of lower pages are those before the index
pub record SplitsAt (page : ℕ) (images : List StoredImage) (place : ℕ) : Type 0 where
  pub bound : place ≤ length images
  pub below : (i : StoredImage) → Contains (take place images) i → i.page < page
  pub rest : (i : StoredImage) → Contains (drop place images) i → page ≤ i.page

-- there is none of the page itself
pub record IsInsertionPoint (page : ℕ) (images : List StoredImage) (place : ℕ) : Type 0 where
  pub bound : place ≤ length images
  pub below : (i : StoredImage) → Contains (take place images) i → i.page < page
  pub above : (i : StoredImage) → Contains (drop place images) i → page < i.page

-- the index of the page's image, or where it would be inserted
abbrev pub IsPlace : ℕ → List StoredImage → Result ℕ ℕ → Type 0
IsPlace page images (Ok place) = (place < length images) × ((i : StoredImage) → i ≡ slice_index_or images place i → i.page ≡ page)
IsPlace page images (Err place) = IsInsertionPoint page images place
