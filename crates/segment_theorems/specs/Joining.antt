-- What two states know together.
use Rattle.std.specs.Prelude.{◌≡◌, ℕ, ◌≤◌, ◌⊎◌, List, ◌++◌}
use Rattle.std.specs.List.{Contains}
use Rattle.redo_core.specs.Data.{RecordData}
pub use Rattle.redo_core.specs.Joining.{JoinedPoint, JoinsPoints, JoinsBooks}
use Rattle.redo_core.specs.Sound.{IsSound}
use Rattle.redo_core.specs.declared.facts.Fact.{Fact}
use Rattle.segment_theorems.specs.State.{State, version_of, image_of}
use Rattle.segment_theorems.specs.Means.{Means, Matters, IsInImage}

-- s' is what s and t know together
pub record Joins (s t s' : State) : Type 0 where
  pub book : JoinsBooks s.book t.book s'.book
  pub base : ((s'.base ≡ s.base) ⊎ (s'.base ≡ t.base)) × (s.base ≤ s'.base) × (t.base ≤ s'.base)
  pub of_both : (r : RecordData) → Contains s'.held r → Contains s.held r ⊎ Contains t.held r
  pub kept : (r : RecordData) → Contains s.held r ⊎ Contains t.held r → Matters s'.book.cuts s'.book.complete r → Contains s'.held r ⊎ IsInImage s' r
  pub images : (g : ℕ) → ((version_of s'.store g ≡ version_of s.store g) × (image_of s'.store g ≡ image_of s.store g))
      ⊎ ((version_of s'.store g ≡ version_of t.store g) × (image_of s'.store g ≡ image_of t.store g))
  pub newest : (g : ℕ) → (version_of s.store g ≤ version_of s'.store g) × (version_of t.store g ≤ version_of s'.store g)

-- What two states know together means the union of what they mean.
abbrev pub JoinMeansUnion : Type 0
JoinMeansUnion =
    (roster : ℕ) (log F G : List Fact) (s t s' : State)
    → IsSound roster log → Means roster log F s → Means roster log G t → Joins s t s' → Means roster log (F ++ G) s'
