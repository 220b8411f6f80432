-- How a store adopts the images of another at one version.
use Rattle.std.specs.Prelude.{◌≡◌, ℕ, ◌<◌, ◌≤◌, ◌⊎◌, nat_le, List, [], ◌∷◌, max, ◌==◌, if◌then◌else◌}
use Rattle.std.specs.List.{Contains}
use Rattle.redo_core.specs.Writing.{zeros}
use Rattle.redo_core.specs.Store.{Store, StoredImage, version_of, image_of}
use Rattle.page_base.specs.Stored.{stored}
use Rattle.page_base.specs.Raising.{Raises}

-- the first of the images given that is of the page, or zeros where none is
abbrev pub first_given : List (ℕ × List ℕ) → ℕ → List ℕ
first_given [] page = zeros
first_given (g ∷ gs) page = if g.0 == page then g.1 else first_given gs page

-- the image is one of those given, at the base
abbrev pub IsGivenAt : ℕ → List (ℕ × List ℕ) → StoredImage → Type 0
IsGivenAt base given i = (g : ℕ × List ℕ) × Contains given g × (i ≡ stored g.0 base g.1)

-- each page of a version below the base has the image given at the base, and each other page what it had
pub record Adopts (old : Store) (base : ℕ) (given : List (ℕ × List ℕ)) (new : Store) : Type 0 where
  pub versions : (page : ℕ) → version_of new page ≡ max (version_of old page) base
  pub kept : (page : ℕ) → base ≤ version_of old page → image_of new page ≡ image_of old page
  pub taken : (page : ℕ) → version_of old page < base → image_of new page ≡ first_given given page
  pub floor : new.floor ≡ max old.floor base

-- no image is stored but the ones before and those given
abbrev pub StoresJust : Store → ℕ → List (ℕ × List ℕ) → Store → Type 0
StoresJust old base given new = (i : StoredImage) → Contains new.images i → Contains old.images i ⊎ IsGivenAt base given i

-- the image of a page after an adoption
abbrev pub adopted : Store → ℕ → List (ℕ × List ℕ) → ℕ → List ℕ
adopted store base given page = if nat_le base (version_of store page) then image_of store page else first_given given page

-- adopting the rest into the new store has the result of adopting all into the old one
pub record ComesTo (base : ℕ) (old : Store) (given : List (ℕ × List ℕ)) (new : Store) (rest : List (ℕ × List ℕ)) : Type 0 where
  pub versions : (page : ℕ) → max (version_of new page) base ≡ max (version_of old page) base
  pub images : (page : ℕ) → adopted new base rest page ≡ adopted old base given page

-- each image is raised to the base, in order
abbrev pub RaisesEachTo : ℕ → Store → List (ℕ × List ℕ) → Store → Type 0
RaisesEachTo base old [] new = new ≡ old
RaisesEachTo base old (g ∷ gs) new = (between : Store) × Raises old g.0 base g.1 between × RaisesEachTo base between gs new

-- raising the rest from the new store on has the result of raising all from the old one
abbrev pub LeadsTo : ℕ → Store → List (ℕ × List ℕ) → Store → List (ℕ × List ℕ) → Type 0
LeadsTo base old given new rest = (last : Store) → RaisesEachTo base new rest last → RaisesEachTo base old given last
