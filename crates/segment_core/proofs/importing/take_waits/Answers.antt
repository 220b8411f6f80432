use Rattle.std.proofs.Common.{rules}
use Rattle.redo_core.specs.declared.facts.Fact.TheVariants.{Advance}
use Rattle.segment_core.proofs.Ordered.{takes_next, refuses_next, takes_whole}
use Rattle.segment_core.proofs.importing.take_waits.Goals as goal

pub loop-wait-preserved : goal.loop-wait-preserved
loop-wait-preserved c = search (rules, takes_next)

pub returns-in-Err-clause-refused : goal.returns-in-Err-clause-refused
returns-in-Err-clause-refused c = search (rules, refuses_next)

pub returns-clause-takes : goal.returns-clause-takes
returns-clause-takes c = takes_whole Advance c.args.waits.now c.loop-wait.wait-index _ _ c.loop-wait-test.false c.loop-wait.invariant.0
