use Rattle.std.proofs.lemmas.Grind.{common_steps}
use Rattle.std.proofs.Common.{sym, ap, ◌∙◌, ◌≡◌, arith}
use Rattle.std.specs.declared.cmp.Ordering.TheVariants.{Greater}
use Rattle.sorted_runs.proofs.Strides.{hit_it, gap_it, taken_more}
use Rattle.sorted_runs.proofs.search.slot_from.Goals as goal

pub returns-in-Equal-clause-hit : goal.returns-in-Equal-clause-hit
returns-in-Equal-clause-hit g c =
    hit_it g.met.K.Ord.total c.args.key.now c.args.run.now c.requires.sorted c.loop-at.at c.index-run-at.result c.loop-at-test.true c.index-run-at.is (ap (λ z. g.K.Ord.cmp c.args.key.now z.0) c.index-run-at.is ∙ sym c.in-Equal.ensures) c.loop-at.invariant.passed

pub returns-in-Less-clause-gap : goal.returns-in-Less-clause-gap
returns-in-Less-clause-gap g c =
    gap_it g.met.K.Ord.total c.args.key.now c.args.run.now c.requires.sorted c.loop-at.at c.index-run-at.result c.loop-at-test.true c.index-run-at.is (ap (λ z. g.K.Ord.cmp c.args.key.now z.0) c.index-run-at.is ∙ sym c.in-Less.ensures) c.loop-at.invariant.passed

pub loop-at-preserved : goal.loop-at-preserved
loop-at-preserved g c = record {
  within = omega arith;
  passed = taken_more (λ e. g.K.Ord.cmp c.args.key.now e.0 ≡ Greater) c.args.run.now c.loop-at.at c.index-run-at.result c.loop-at-test.true c.index-run-at.is (ap (λ z. g.K.Ord.cmp c.args.key.now z.0) c.index-run-at.is ∙ sym c.in-Greater.ensures) c.loop-at.invariant.passed;
}

pub returns-clause-gap : goal.returns-clause-gap
returns-clause-gap g c = grind (arith, common_steps)
