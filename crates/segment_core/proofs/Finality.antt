-- Pages that a fold made are final.
use Rattle.std.proofs.Common.{ℕ, List, rules}
use Rattle.redo_core.specs.declared.facts.Fact.{Fact}
use Rattle.segment_theorems.specs.State.{State}
use Rattle.segment_theorems.specs.Means.{Means}
use Rattle.segment_theorems.specs.Promises.{IsFinalPage}
use Rattle.segment_core.specs.Folding.{IsFoldOf}
use Rattle.segment_core.specs.declared.fold_plan.Folded.{Folded}

-- a page that was folded for facts of the log
pub fold_is_final : (roster : ℕ) (log facts : List Fact) (s : State) (g : ℕ) (folded : Folded) → (m : Means roster log facts s) → IsFoldOf facts m.0 g folded
    → IsFinalPage roster log folded.page folded.version folded.image
fold_is_final roster log facts s g folded m is = search rules
