use Rattle.std.proofs.Common.{◌≡◌, ℕ, ◌<◌, ◌⊎◌, Some}
use Rattle.std.specs.Prelude.{slice_get}
use Rattle.node_cell.specs.Kept.{ClosedData, MeansTrail}
use Rattle.fleet_drill.proofs.joining.joined_with.Given as goal

abbrev pub invariant-loop-place : goal.invariant-loop-place
invariant-loop-place g l = (n : ℕ) (c : ClosedData) → ((n < l.place) ⊎ (n ≡ l.fn.own)) → slice_get l.closed n ≡ Some c → MeansTrail g.L.LogName.roster g.L.LogName.log l.joined c.trail
