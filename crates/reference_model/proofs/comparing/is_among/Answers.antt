use Rattle.std.proofs.lemmas.Grind.{common_steps}
use Rattle.std.proofs.Common.{◌≢◌, IsTrue, false, refl, arith}
use Rattle.std.proofs.lemmas.List.Elements.{All-contains}
use Rattle.redo_core.specs.declared.facts.Fact.{Fact}
use Rattle.redo_core.proofs.Scans.{whole, one_more}
use Rattle.reference_model.proofs.comparing.is_among.Goals as goal

pub returns-then-is_same : goal.returns-then-is_same
returns-then-is_same c = grind (arith, common_steps)

pub loop-other-preserved : goal.loop-other-preserved
loop-other-preserved c =
    one_more (λ (f : Fact). f ≢ c.args.fact.now) c.args.facts.now c.loop-other.other-index c.other-item.result c.loop-other-test.true c.other-item.is
    c.loop-other.invariant
    (λ e. let t : IsTrue false = c.if-is_same.ensures.same.1 e in absurd (cc))

pub returns : goal.returns
returns c = (
  λ h. absurd (cc),
  λ h. absurd (All-contains (λ (f : Fact). f ≢ c.args.fact.now) c.args.facts.now c.args.fact.now
      (whole (λ (f : Fact). f ≢ c.args.fact.now) c.args.facts.now c.loop-other.other-index c.loop-other-test.false c.loop-other.invariant) h refl),
)
