use Rattle.std.proofs.lemmas.Grind.{common_steps}
use Rattle.std.proofs.Common.{arith, rules}
use Rattle.redo_core.proofs.Scans.{one_more, all_seen}
use Rattle.redo_wire.proofs.lists.put_list.Goals as goal

pub loop-item-preserved : goal.loop-item-preserved
loop-item-preserved g c = record {
  written = grind (arith, common_steps);
  wire = one_more (g.W.ListWriter.fits c.args.writer) c.args.items.now c.loop-item.item-index c.item-item.result c.loop-item-test.true c.item-item.is
      c.loop-item.invariant.wire c.in_ok-put.ensures.wire;
}

pub returns-clause-wire : goal.returns-clause-wire
returns-clause-wire g c = search (rules, all_seen)

pub returns-clause-ok : goal.returns-clause-ok
returns-clause-ok g c = grind (arith, common_steps)
