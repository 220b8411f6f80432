-- Which facts a book knows.
use Rattle.std.specs.Prelude.{◌<◌, ◌↔◌, List, [], ◌∷◌, ◌++◌}
use Rattle.std.specs.List.{Contains}
use Rattle.redo_core.specs.Data.{AdvanceData}
use Rattle.redo_core.specs.Sets.{SameSet, cuts, advances}
use Rattle.redo_core.specs.Points.{ArePoints}
use Rattle.redo_core.specs.declared.facts.Fact.{Fact}
use Rattle.redo_core.specs.Book.{BookData, roster_of}

-- The book has exactly the truncations of the facts. An advance of a known epoch takes effect on its reader's point; the others wait.
pub record KnowsFacts (facts : List Fact) (b : BookData) : Type 0 where
  pub same_cuts : SameSet b.cuts (cuts facts)
  pub points : ArePoints (roster_of b) (advances facts) b.complete b.points
  pub waits : (a : AdvanceData) → Contains b.waits a ↔ (Contains (advances facts) a × (b.complete < a.epoch))

-- whatever facts the old book knows, the new one knows those and one more
abbrev pub KnowsMore : BookData → Fact → BookData → Type 0
KnowsMore old fact new = (facts : List Fact) → KnowsFacts facts old → KnowsFacts (facts ++ fact ∷ []) new
