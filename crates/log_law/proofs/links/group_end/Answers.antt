use Rattle.std.proofs.lemmas.Grind.{common_steps}
use Rattle.std.proofs.Common.{arith}
use Rattle.log_law.proofs.Least.{zero_item}
use Rattle.log_law.proofs.Walking.{same_key, one_more_key}
use Rattle.log_law.proofs.links.group_end.Goals as goal

pub loop-end-preserved : goal.loop-end-preserved
loop-end-preserved c = record {
  after = omega (arith, c.loop-end.invariant.after);
  within = omega arith;
  same = one_more_key c.args.items.now c.args.start c.loop-end.end c.requires c.loop-end-test.true (c.if-items-end.true, c.if-items-end-2.true)
      c.loop-end.invariant.same;
}

pub returns-else-items-end-2-clause-apart : goal.returns-else-items-end-2-clause-apart
returns-else-items-end-2-clause-apart c d l same =
    c.if-items-end-2.false (same_key c.args.items.now c.loop-end.end c.args.start d zero_item l c.requires same).1

pub returns-else-items-end-clause-apart : goal.returns-else-items-end-clause-apart
returns-else-items-end-clause-apart c d l same =
    c.if-items-end.false (same_key c.args.items.now c.loop-end.end c.args.start d zero_item l c.requires same).0

pub returns-else-items-end-2-clause-same : goal.returns-else-items-end-2-clause-same
returns-else-items-end-2-clause-same c = grind (arith, common_steps)

pub returns-else-items-end-clause-same : goal.returns-else-items-end-clause-same
returns-else-items-end-clause-same c = grind (arith, common_steps)
