-- What a reply, or a broken connection, does to a phase.
use Rattle.std.specs.Prelude.{◌≡◌, List, [], ◌∷◌}
use Rattle.volume.specs.declared.actions.Action.{Action}
use Rattle.volume.specs.declared.actions.Action.TheVariants.{Refused}
use Rattle.volume.specs.declared.actions.Fault.{Fault}
use Rattle.volume.specs.declared.phases.Phase.{Phase}
use Rattle.volume.specs.declared.turns.Transition.{Transition}
use Rattle.volume.specs.declared.turns.Transition.TheVariants as turn

-- the phase goes on, with these actions
abbrev pub Stays : Transition → List Action → Type 0
Stays (turn.Stay actions) asked = actions.items ≡ asked
Stays other asked = ⊥

-- this phase comes next, with these actions
abbrev pub Enters : Transition → Phase → List Action → Type 0
Enters (turn.Enter phase actions) next asked = (phase ≡ next) × (actions.items ≡ asked)
Enters other next asked = ⊥

-- what was begun ends with this fault
abbrev pub StopsWith : Transition → Fault → Type 0
StopsWith (turn.End actions) fault = actions.items ≡ Refused fault ∷ []
StopsWith other fault = ⊥
