-- How a state reclaims what it does not need: steps on what it stores.
use Rattle.std.specs.Prelude.{◌≡◌, ◌≢◌, ℕ, ◌≤◌, ◌⊎◌, List}
use Rattle.std.specs.List.{Contains}
use Rattle.redo_core.specs.Data.{RecordData}
use Rattle.redo_core.specs.Standing.{IsDead}
use Rattle.segment_theorems.specs.State.{State, SameBase, version_of, image_of}
use Rattle.segment_theorems.specs.Means.{IsInImage}
use Rattle.segment_theorems.specs.HasMeaning.{HasAnchor}

-- a page has the image, of a version at or above the page's own before
pub record CommitsImage (old : State) (page version : ℕ) (image : List ℕ) (new : State) : Type 0 where
  pub book : new.book ≡ old.book
  pub held : new.held ≡ old.held
  pub base : new.base ≡ old.base
  pub newer : version_of old.store page ≤ version
  pub version_is : version_of new.store page ≡ version
  pub image_is : image_of new.store page ≡ image
  pub others : (other : ℕ) → other ≢ page → (version_of new.store other ≡ version_of old.store other) × (image_of new.store other ≡ image_of old.store other)

-- the base point is the anchor, and stored records that their pages' new images contain may be dropped
pub record RemovesFolded (old new : State) : Type 0 where
  pub book : new.book ≡ old.book
  pub base : HasAnchor old new.base
  pub held : (r : RecordData) → Contains new.held r → Contains old.held r
  pub kept : (r : RecordData) → Contains old.held r → Contains new.held r ⊎ IsInImage new r
  pub store : new.store ≡ old.store

-- dead stored records may be dropped
pub record RemovesDead (old new : State) : Type 0 where
  pub book : new.book ≡ old.book
  pub held : (r : RecordData) → Contains new.held r → Contains old.held r
  pub kept : (r : RecordData) → Contains old.held r → Contains new.held r ⊎ IsDead old.book.cuts old.book.complete r.epoch r.number
  pub rest : SameBase old new
