use Rattle.std.proofs.lemmas.Grind.{common_steps}
use Rattle.std.proofs.Common.{rules, arith}
use Rattle.redo_core.specs.declared.facts.Fact.TheVariants.{Cut}
use Rattle.segment_core.proofs.Ordered.{takes_next, refuses_next, takes_whole}
use Rattle.segment_core.proofs.importing.take_cuts.Goals as goal

pub loop-cut-preserved : goal.loop-cut-preserved
loop-cut-preserved c = grind (arith, common_steps, takes_next)

pub returns-in-Err-clause-refused : goal.returns-in-Err-clause-refused
returns-in-Err-clause-refused c = search (rules, refuses_next)

pub returns-clause-takes : goal.returns-clause-takes
returns-clause-takes c = takes_whole Cut c.args.cuts.now c.loop-cut.cut-index _ _ c.loop-cut-test.false c.loop-cut.invariant.0
