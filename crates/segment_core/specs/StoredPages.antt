-- The pages that a state stores something of, and those that it shows at its anchor.
use Rattle.std.specs.Prelude.{◌≡◌, ◌≢◌, ℕ, ◌<◌, ◌≤◌, ◌⊎◌, List, length, take, slice_index_or, Option, Some, None}
use Rattle.std.specs.List.{Contains, All, AllByRecursion}
use Rattle.redo_core.specs.Data.{RecordData}
use Rattle.redo_core.specs.Order.{Lists}
use Rattle.redo_core.specs.Shape.{page_len}
use Rattle.redo_core.specs.Writing.{zeros}
use Rattle.redo_core.specs.Meaning.{ImageData, ImageBefore}
use Rattle.hot_log.specs.Found.{IsPageAbove}
use Rattle.segment_theorems.specs.State.{State, StoredImage}
use Rattle.segment_theorems.specs.Shows.{Shows}
use Rattle.segment_theorems.specs.HasMeaning.{HasAnchor}

-- an image of the page is stored
abbrev pub IsImageOf : List StoredImage → ℕ → Type 0
IsImageOf images page = (i : StoredImage) × Contains images i × (i.page ≡ page)

-- the images from an index on are those of pages above one
pub record BeginsAbove (after : Option ℕ) (images : List StoredImage) (place : ℕ) : Type 0 where
  pub bound : place ≤ length images
  pub before : All (λ i. IsPageAbove after i.page → ⊥) (take place images)
  pub from : (k : ℕ) (i : StoredImage) → place ≤ k → k < length images → IsPageAbove after (slice_index_or images k i).page

-- the page has an image, or a stored record writes it
abbrev pub IsStoredPage : State → ℕ → Type 0
IsStoredPage s page = IsImageOf s.store.images page ⊎ ((r : RecordData) × Contains s.held r × (r.page ≡ page))

-- the page at the anchor, or none where it is zeros
abbrev pub IsImageAtAnchor : State → ℕ → Option ImageData → Type 0
IsImageAtAnchor s page None = (anchor : ℕ) → HasAnchor s anchor → Shows s page anchor zeros
IsImageAtAnchor s page (Some i) = (i.page ≡ page) × (i.bytes ≢ zeros) × ((anchor : ℕ) → HasAnchor s anchor → Shows s page anchor i.bytes)

-- these are the nonzero pages at the anchor
abbrev pub AreShown : State → List ImageData → Type 0
AreShown s pages = (anchor : ℕ) → HasAnchor s anchor → Lists ImageBefore (λ i. Shows s i.page anchor i.bytes × (i.bytes ≢ zeros)) pages

-- so many pages at the anchor are not zeros, and each has the length of a page
abbrev pub CountsShown : State → ℕ → Type 0
CountsShown s count =
    (pages : List ImageData) × AreShown s pages × AllByRecursion (λ i. length i.bytes ≡ page_len) pages × (length pages ≡ count)
