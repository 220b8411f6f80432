use Rattle.std.proofs.lemmas.Grind.{common_steps}
use Rattle.std.proofs.Common.{refl, subst, arith}
use Rattle.node_threads.specs.Refusals.{AllStarted}
use Rattle.fleet_drill.proofs.settling.close_each.Goals as goal

pub loop-alloc-init : goal.loop-alloc-init
loop-alloc-init g c = record {
  started = subst AllStarted c.as_slice.ensures.value c.in_ok-had_memory.ensures;
  closed = refl;
}

pub close_last-requires-clause-started : goal.close_last-requires-clause-started
close_last-requires-clause-started g c = grind (arith, common_steps)

pub close_last-requires-clause-left : goal.close_last-requires-clause-left
close_last-requires-clause-left g c = grind (arith, common_steps)

pub loop-alloc-smaller : goal.loop-alloc-smaller
loop-alloc-smaller g c = grind (arith, common_steps)

pub loop-alloc-preserved : goal.loop-alloc-preserved
loop-alloc-preserved g c = grind (arith, common_steps)

pub returns : goal.returns
returns g c = grind (arith, common_steps)
