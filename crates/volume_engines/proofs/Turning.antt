-- What a turn leaves, by what it is.
use Rattle.std.proofs.Common.{◌≡◌, ℕ, List, [], ◌∷◌, sym, subst}
use Rattle.volume.specs.declared.actions.Action.{Action}
use Rattle.volume.specs.declared.actions.Action.TheVariants.{Refused}
use Rattle.volume.specs.declared.actions.Fault.{Fault}
use Rattle.volume.specs.declared.phases.Phase.{Phase}
use Rattle.volume.specs.declared.phases.Phase.TheVariants as phase
use Rattle.volume.specs.declared.turns.Transition.{Transition}
use Rattle.volume.specs.declared.turns.Transition.TheVariants as turn
use Rattle.volume.specs.Turning.{Stays, Enters, StopsWith}
use Rattle.volume_theorems.specs.Runs.{VolumeRun}
use Rattle.volume_logs.specs.Histories.{History}
use Rattle.volume_engines.specs.Lives.{Life, Guards}
use Rattle.volume_engines.proofs.Knowing.{Leaves, LeavesTurn}

module _ (run : VolumeRun) (h : History) (guards : Guards) (e : ℕ) (life : Life) (n : ℕ) (old left : Phase) where
  leaves_as : (next : Phase) (actions asked : List Action) → actions ≡ asked → Leaves run h guards e life n old next asked → Leaves run h guards e life n old next actions
  leaves_as next actions asked same is = subst (λ (xs : List Action). Leaves run h guards e life n old next xs) (sym same) is

  pub when_stays : (t : Transition) (asked : List Action) → Stays t asked → Leaves run h guards e life n old left asked → LeavesTurn run h guards e life n old left t
  when_stays (turn.Stay actions) asked stays is = leaves_as left actions.items asked stays is
  when_stays (turn.Enter next actions) asked stays is = absurd stays
  when_stays (turn.End actions) asked stays is = absurd stays

  pub when_enters : (t : Transition) (next : Phase) (asked : List Action) → Enters t next asked → Leaves run h guards e life n old next asked
      → LeavesTurn run h guards e life n old left t
  when_enters (turn.Stay actions) next asked enters is = absurd enters
  when_enters (turn.Enter p actions) next asked enters is =
      subst (λ (q : Phase). Leaves run h guards e life n old q actions.items) (sym enters.0) (leaves_as next actions.items asked enters.1 is)
  when_enters (turn.End actions) next asked enters is = absurd enters

  pub when_stops : (t : Transition) (f : Fault) → StopsWith t f → LeavesTurn run h guards e life n old left t
  when_stops (turn.Stay actions) f stops = absurd stops
  when_stops (turn.Enter next actions) f stops = absurd stops
  when_stops (turn.End actions) f stops =
      leaves_as phase.Idle actions.items (Refused f ∷ []) stops (record { knows = tt; right = (tt, tt); wider = λ s is. tt })
