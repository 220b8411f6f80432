use Rattle.std.proofs.Common.{arith}
use Rattle.fleet_tool.proofs.DrillWords.{none_is_some}
use Rattle.fleet_tool.proofs.drill_line.drill_in.Goals as goal

pub returns-in_err-nodes-clause-known : goal.returns-in_err-nodes-clause-known
returns-in_err-nodes-clause-known c = λ task range encodes.
    let read = c.number_in.ensures.known task.nodes (omega (arith, range.1)) encodes.nodes in
    absurd (none_is_some _ _ c.in_err-nodes.was read)

pub returns-in_err-workers-clause-known : goal.returns-in_err-workers-clause-known
returns-in_err-workers-clause-known c = λ task range encodes.
    let read = c.number_in-2.ensures.known task.workers (omega (arith, range.3)) encodes.workers in
    absurd (none_is_some _ _ c.in_err-workers.was read)
