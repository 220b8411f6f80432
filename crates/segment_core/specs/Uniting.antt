-- How a segment merges images, and inserts a record that is not compared.
use Rattle.std.specs.Prelude.{◌≡◌, ℕ, ◌⊎◌, List, max}
use Rattle.std.specs.List.{Contains}
use Rattle.redo_core.specs.Data.{RecordData}
use Rattle.page_base.specs.Merging.{Merges}
use Rattle.segment_theorems.specs.State.{State, StoredImage, SameBase}
use Rattle.segment_core.specs.Refusing.{HoldsOther}

-- the record is stored, or another one is under its key; nothing else changes
pub record HoldsRecord (old : State) (r : RecordData) (new : State) : Type 0 where
  pub book : new.book ≡ old.book
  pub rest : SameBase old new
  pub before : (x : RecordData) → Contains old.held x → Contains new.held x
  pub more : (x : RecordData) → Contains new.held x → Contains old.held x ⊎ (x ≡ r)
  pub held : Contains new.held r ⊎ HoldsOther old r

-- the base point is raised to the base, and all else stays
pub record RaisesBase (old : State) (base : ℕ) (new : State) : Type 0 where
  pub book : new.book ≡ old.book
  pub held : new.held ≡ old.held
  pub base_is : new.base ≡ max old.base base
  pub store : new.store ≡ old.store

-- the book and the stored records stay, the base point is raised to the base, and the images are merged over the default version
pub record Unites (old : State) (base floor : ℕ) (given : List StoredImage) (new : State) : Type 0 where
  pub book : new.book ≡ old.book
  pub held : new.held ≡ old.held
  pub base_is : new.base ≡ max old.base base
  pub store : Merges old.store floor given new.store
