-- A fold that is planned and committed keeps what the segment means.
use Rattle.std.proofs.Common.{ℕ, List}
use Rattle.redo_core.specs.Position.{Position}
use Rattle.redo_core.specs.Sound.{IsSound}
use Rattle.redo_core.specs.declared.facts.Fact.{Fact}
use Rattle.segment_theorems.specs.State.{State}
use Rattle.segment_theorems.specs.Means.{MeansAt}
use Rattle.segment_theorems.specs.Promises.{KeepsMeaning, KeepsMeaningWith}
use Rattle.segment_core.specs.Folding.{IsFoldOf}
use Rattle.segment_core.specs.declared.fold_plan.Folded.{Folded}
use Rattle.segment_core.proofs.Finality.{fold_is_final}

pub fold_keeps : (old new : State) (g : ℕ) (folded : Folded)
    → ((roster : ℕ) (log facts : List Fact) (p : Position) → IsSound roster log → MeansAt roster log facts p old → IsFoldOf facts p g folded)
    → KeepsMeaningWith old folded.page folded.version folded.image new → KeepsMeaning old new
fold_keeps old new g folded plans keeps = λ roster log facts sound m.
    keeps roster log facts sound (fold_is_final roster log facts old g folded m (plans roster log facts m.0 sound m.1)) m
