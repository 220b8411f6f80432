-- What a segment with a cache of page images is.
use Rattle.std.specs.Prelude.{◌≡◌, ℕ, ◌≤◌, List, length, nat_eq}
use Rattle.std.specs.List.{Contains, IsDistinct}
use Rattle.std.specs.Map.{keys_of}
use Rattle.segment_theorems.specs.State.{State}
use Rattle.segment_theorems.specs.HasMeaning.{HasComplete}
use Rattle.segment_theorems.specs.Shows.{Shows}
use Rattle.read_cache.specs.declared.kept.KeptImage.{KeptImage}

-- the segment, how many images are kept at most, and the images kept by page, the one last read first
pub record Cached : Type 0 where
  pub segment : State
  pub pages : ℕ
  pub images : List (ℕ × KeptImage)

abbrev pub cached : State → ℕ → List (ℕ × KeptImage) → Cached
cached segment pages images = record { segment = segment; pages = pages; images = images }

-- the image is the page that the segment shows at its point, which is not above the complete point
pub record IsShown (s : State) (page : ℕ) (kept : KeptImage) : Type 0 where
  pub shown : Shows s page kept.point kept.image
  pub covered : (complete : ℕ) → HasComplete s complete → kept.point ≤ complete

-- there are not more images than may be kept, one a page, and each is what the segment shows
pub record IsCached (c : Cached) : Type 0 where
  pub within : length c.images ≤ c.pages
  pub one : IsDistinct nat_eq (keys_of c.images)
  pub shown : (page : ℕ) (kept : KeptImage) → Contains c.images (page, kept) → IsShown c.segment page kept

-- no image is kept that was read of the page at the point
abbrev pub KeepsNone : Cached → ℕ → ℕ → Type 0
KeepsNone c page point = (kept : KeptImage) → Contains c.images (page, kept) → kept.point ≡ point → ⊥
