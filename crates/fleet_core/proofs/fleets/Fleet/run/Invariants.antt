use Rattle.std.proofs.Common.{◌≡◌, ◌≤◌, length, take, vec_len, vec_capacity}
use Rattle.fleet_core.specs.Calls.{RunCalls}
use Rattle.fleet_core.specs.Runs.{FollowsMachine}
use Rattle.fleet_core.proofs.fleets.Fleet.run.Given as goal

-- the replies so far are the machine's, and there is room for the rest
abbrev pub invariant-loop-step : goal.invariant-loop-step
invariant-loop-step l = record {
  follows : FollowsMachine l.initial.self (take l.step-index l.steps) l.replies.items l.self;
  calls : RunCalls l.initial.self (take l.step-index l.steps) l.replies.items l.self;
  count : vec_len l.replies ≡ l.step-index;
  room : length l.steps ≤ vec_capacity l.replies;
}
