-- Words that are loaded one after the other.
use Rattle.std.specs.Prelude.{◌≡◌, ℕ, ◌<◌, ◌≤◌, List, length, slice_index}
use Rattle.redo_core.specs.declared.facts.Fact.{Fact}
use Rattle.front_board.specs.FrontWord.{AreFronts}

-- the first `count` words were loaded: the view has what was found, and nothing below what it had
pub record IsSurveyed (log : List Fact) (count : ℕ) (old seen words : List ℕ) : Type 0 where
  pub same : length seen ≡ length words
  pub kept : length seen ≡ length old
  pub found : (node : ℕ) → node < count → slice_index seen node ≡ slice_index words node
  pub fronts : AreFronts log seen
  pub grows : (node : ℕ) → slice_index old node ≤ slice_index seen node
