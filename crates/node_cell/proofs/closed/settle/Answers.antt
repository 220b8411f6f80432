use Rattle.std.proofs.Common.{subst, rules}
use Rattle.redo_core.proofs.Scans.{one_more, whole}
use Rattle.node_cell.specs.Settling.{Stands}
use Rattle.node_cell.proofs.closed.settle.Goals as goal

pub loop-receipt-preserved : goal.loop-receipt-preserved
loop-receipt-preserved g c =
    let item = c.receipt-item.result in
    one_more (Stands c.args.closed.now.trail) c.args.receipts.now c.loop-receipt.receipt-index item c.loop-receipt-test.true c.receipt-item.is
    c.loop-receipt.invariant
    (subst (λ k. Stands k.trail item) c.closed.view_is (subst (λ k. Stands k.trail item) c.state.ensures c.in_ok-seek.ensures.ok))

pub returns-clause-ok : goal.returns-clause-ok
returns-clause-ok g c = search (rules, whole)
