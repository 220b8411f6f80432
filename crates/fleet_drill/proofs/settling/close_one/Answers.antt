use Rattle.std.proofs.lemmas.Grind.{common_steps}
use Rattle.std.proofs.Common.{subst, arith}
use Rattle.node_lock.specs.Passes.{AreTrue}
use Rattle.node_threads.specs.Work.{receipts_in}
use Rattle.fleet_drill.proofs.Receipts.{none_strange}
use Rattle.fleet_drill.proofs.settling.close_one.Goals as goal

pub unreachable-requires : goal.unreachable-requires
unreachable-requires g c =
    let lists = subst (AreTrue c.close-closed.result.trail) c.in_ok-passes.ensures.items c.close-closed.ensures.lists in
    none_strange c.close-closed.result.trail c.args.pass.number c.args.pass.list (receipts_in c.args.answers.items) c.in_ok-receipts.receipts.items c.as_slice.result.now c.in-Err.field-0.found
    c.receipts_stand.ensures lists.0.1 c.requires.list c.in_ok-receipts.ensures c.as_slice.ensures.value c.in-Err.ensures.err

pub same-node : goal.same-node
same-node g c = grind (arith, common_steps)

pub close-closed-requires : goal.close-closed-requires
close-closed-requires g c = grind (arith, common_steps)
