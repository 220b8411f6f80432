use Rattle.std.proofs.Common.{◌≤◌, subst, arith, rules}
use Rattle.std.proofs.lemmas.List.{take_all}
use Rattle.segment_theorems.specs.State.{StoredImage}
use Rattle.segment_core.proofs.DuePages.{under_more}
use Rattle.segment_core.proofs.pending.top_in.Goals as goal

pub loop-image-preserved : goal.loop-image-preserved
loop-image-preserved c = record {
  floor = (let f = c.loop-image.invariant.floor in omega arith);
  each = under_more c.args.images.now c.loop-image.image-index c.image-item.result c.loop-image.top c.max-top.result c.loop-image-test.true
      (omega arith) (subst (λ (i : StoredImage). i.version ≤ c.max-top.result) c.image-item.is (omega (arith, c.version.ensures)))
      c.loop-image.invariant.each;
}

pub returns-clause-each : goal.returns-clause-each
returns-clause-each c = search (rules, take_all)
