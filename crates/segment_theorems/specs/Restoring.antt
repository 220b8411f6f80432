-- A state rebuilt from what another one means.
use Rattle.std.specs.Prelude.{◌≡◌, ℕ, ◌↔◌}
use Rattle.std.specs.List.{Contains}
use Rattle.redo_core.specs.Data.{RecordData}
use Rattle.segment_theorems.specs.State.{State, version_of, image_of}
use Rattle.segment_theorems.specs.Shows.{Shows}
use Rattle.segment_theorems.specs.HasMeaning.{HasAnchor, IsKeptBy}
use Rattle.segment_theorems.specs.Promises.{KeepsMeaning}

-- the book is the old one's, the base point its anchor, each page its page there, and exactly its kept records are stored
pub record Restores (old new : State) : Type 0 where
  pub book : new.book ≡ old.book
  pub base : HasAnchor old new.base
  pub versions : (page : ℕ) → version_of new.store page ≡ new.base
  pub images : (page : ℕ) → Shows old page new.base (image_of new.store page)
  pub held : (r : RecordData) → Contains new.held r ↔ IsKeptBy old new.base r

-- Such a state means what the old one means.
abbrev pub RestoreKeeps : Type 0
RestoreKeeps = (old new : State) → Restores old new → KeepsMeaning old new
