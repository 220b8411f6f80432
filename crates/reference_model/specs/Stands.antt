-- Standings and positions as the values that the reference model returns.
use Rattle.std.specs.Prelude.{ℕ, List}
use Rattle.redo_core.specs.Data.{CutData}
use Rattle.redo_core.specs.Standing.{IsAlive, IsDead, IsWaiting}
use Rattle.redo_core.specs.Position.{Position}
use Rattle.reference_model.specs.declared.views.Position.{Position as Answered}
use Rattle.reference_model.specs.declared.views.ModelStanding.{ModelStanding}
use Rattle.reference_model.specs.declared.views.ModelStanding.TheVariants.{Waiting, Alive, Dead}

-- the standing is that of a record of this epoch and LSN in view k
abbrev pub StandsAs : List CutData → ℕ → ℕ → ℕ → ModelStanding → Type 0
StandsAs cs k epoch number Waiting = IsWaiting k epoch
StandsAs cs k epoch number Alive = IsAlive cs k epoch number
StandsAs cs k epoch number Dead = IsDead cs k epoch number

-- the fields of a returned position
abbrev pub position_of : Answered → Position
position_of p = record { epoch = p.epoch; complete = p.complete; points = p.points.items; min = p.min; anchor = p.anchor }
