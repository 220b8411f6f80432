-- A turn from a phase that a reply has changed.
use Rattle.std.proofs.Common.{List}
use Rattle.volume.specs.declared.actions.Action.{Action}
use Rattle.volume.specs.declared.phases.Phase.{Phase}
use Rattle.volume.specs.declared.turns.Transition.{Transition}
use Rattle.volume.specs.declared.turns.Transition.TheVariants.{Stay, Enter, End}
use Rattle.volume.specs.Data.{VolumeData, at_phase}
use Rattle.volume.specs.Stepping.{Turns}

pub turned : (old : VolumeData) (left : Phase) (turn : Transition) (actions : List Action) (new : VolumeData)
    → Turns (at_phase old left) left turn actions new → Turns old left turn actions new
turned old left (Stay asked) actions new turns = turns
turned old left (Enter next asked) actions new turns = turns
turned old left (End asked) actions new turns = turns
