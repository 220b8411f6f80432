-- How a store takes images of several versions, with a default version.
use Rattle.std.specs.Prelude.{◌≡◌, ℕ, ◌<◌, ◌≤◌, ◌⊎◌, List, [], ◌∷◌, max}
use Rattle.std.specs.List.{Contains}
use Rattle.redo_core.specs.Writing.{zeros}
use Rattle.redo_core.specs.Store.{Store, StoredImage, version_of, image_of}
use Rattle.page_base.specs.Raising.{SamePage, Raises}

-- the page has an image that was given for it
abbrev pub IsTaken : List StoredImage → Store → ℕ → Type 0
IsTaken given new page = (i : StoredImage) × Contains given i × (i.page ≡ page) × (version_of new page ≡ i.version) × (image_of new page ≡ i.bytes)

-- the page is zeros at the default version, and no image has been given for it so far
abbrev pub IsFloored : ℕ → List StoredImage → Store → ℕ → Type 0
IsFloored floor given new page = ((i : StoredImage) → Contains given i → i.page ≡ page → i.version < floor) × (version_of new page ≡ floor)
    × (image_of new page ≡ zeros)

-- a page keeps what it had, or has an image that was given or zeros at the default version where that is a higher version; no version
-- is below those given or the default version, and no other image is stored
pub record Merges (old : Store) (floor : ℕ) (given : List StoredImage) (new : Store) : Type 0 where
  pub page : (page : ℕ)
      → SamePage old new page
      ⊎ ((version_of old page < version_of new page) × (IsTaken given new page ⊎ IsFloored floor given new page))
  pub not_older : (page : ℕ) → version_of old page ≤ version_of new page
  pub not_below : (i : StoredImage) → Contains given i → i.version ≤ version_of new i.page
  pub floored : (page : ℕ) → floor ≤ version_of new page
  pub floor_is : new.floor ≡ max old.floor floor
  pub listed : (i : StoredImage) → Contains new.images i → Contains old.images i ⊎ Contains given i

-- each image is raised, in order
abbrev pub RaisesEach : Store → List StoredImage → Store → Type 0
RaisesEach old [] new = new ≡ old
RaisesEach old (i ∷ is) new = (between : Store) × Raises old i.page i.version i.bytes between × RaisesEach between is new

-- raising the rest from the new store on has the result of raising all from the old one
abbrev pub LeadsOn : Store → List StoredImage → Store → List StoredImage → Type 0
LeadsOn old given new rest = (last : Store) → RaisesEach new rest last → RaisesEach old given last
