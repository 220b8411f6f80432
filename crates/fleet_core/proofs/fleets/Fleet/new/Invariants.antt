use Rattle.std.proofs.Common.{◌≡◌, replicate}
use Rattle.segment_theorems.specs.State.{empty_state}
use Rattle.fleet_core.proofs.fleets.Fleet.new.Given as goal

-- as many empty segments as were counted
abbrev pub invariant-loop : goal.invariant-loop
invariant-loop l = l.segments.items ≡ replicate l.counter (empty_state l.roster)
