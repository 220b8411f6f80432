use Rattle.node_lock.specs.Passes.{IsIdlePass}
use Rattle.call_cases.proofs.intake_calls.diary.append_all.Given as goal

abbrev pub invariant-loop-step : goal.invariant-loop-step
invariant-loop-step g l = IsIdlePass l.lock.id l.pass
