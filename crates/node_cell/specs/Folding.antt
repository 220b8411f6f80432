-- Folds of a log's pages.
use Rattle.std.specs.Prelude.{◌≡◌, ℕ, ◌<◌, List, Result, MatchResult}
use Rattle.redo_core.specs.Sets.{IsPart}
use Rattle.redo_core.specs.Position.{Position, IsPosition}
use Rattle.redo_core.specs.declared.facts.Fact.{Fact}
use Rattle.segment_theorems.specs.State.{State}
use Rattle.segment_theorems.specs.Means.{MeansAt}
use Rattle.segment_core.specs.Folding.{IsFoldOf, Commits}
use Rattle.segment_core.specs.Forgetting.{DiscardsJust}
use Rattle.segment_core.specs.declared.fold_plan.Folded.{Folded}
use Rattle.segment_core.specs.declared.fold_plan.CommitFault.{CommitFault}
use Rattle.segment_core.specs.declared.fold_plan.CommitFault.TheVariants.{Ahead, Memory}
use Rattle.node_cell.specs.Kept.{KeepsParts}

-- the page of a part of the log at the part's anchor
pub record IsFoldOfLog (roster : ℕ) (log : List Fact) (folded : Folded) : Type 0 where
  pub facts : List Fact
  pub p : Position
  pub part : IsPart facts log
  pub position : IsPosition roster facts p
  pub fold : IsFoldOf facts p folded.page folded

-- n is the anchor of a part of the log that the segment means
pub record IsAnchorThere (roster : ℕ) (log : List Fact) (segment : State) (n : ℕ) : Type 0 where
  pub facts : List Fact
  pub p : Position
  pub means : MeansAt roster log facts p segment
  pub anchor : n ≡ p.anchor

-- a commit leaves what the segment means and takes the fold; one that is refused leaves the segment
abbrev pub CommitsInto : {X E : Type 0} → ℕ → List Fact → Folded → Result X E → State → State → Type 0
CommitsInto roster log folded result old new = MatchResult result (λ _. KeepsParts roster log old new × Commits old folded new) (λ _. new ≡ old)

-- a discard leaves what the segment means, and just drops what is folded up to the anchor
abbrev pub DiscardsInto : ℕ → List Fact → State → State → Type 0
DiscardsInto roster log old new = KeepsParts roster log old new × DiscardsJust old new

-- why the segment does not take a fold: the version is above its anchor, or memory ran out
abbrev pub RefusesFold : ℕ → List Fact → State → Folded → CommitFault → Type 0
RefusesFold roster log segment folded (Ahead version anchor) = (version ≡ folded.version) × (anchor < version) × IsAnchorThere roster log segment anchor
RefusesFold roster log segment folded Memory = Unit {0}
