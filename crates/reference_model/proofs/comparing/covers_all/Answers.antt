use Rattle.std.proofs.lemmas.Grind.{common_steps}
use Rattle.std.proofs.Common.{refl, IsTrue, arith}
use Rattle.std.proofs.lemmas.List.Elements.{All-contains}
use Rattle.redo_core.specs.declared.facts.Fact.{Fact}
use Rattle.redo_core.proofs.Scans.{whole, one_more}
use Rattle.reference_model.specs.Comparing.{KeepsFact, CoversFact}
use Rattle.reference_model.specs.Stands.{position_of}
use Rattle.reference_model.proofs.comparing.covers_all.Goals as goal
use Rattle.reference_model.proofs.comparing.covers_all.Goals.{else-keeps-via-then-keeps+else-not-is_covered, else-keeps-via-else-keeps}

pub loop-fact-preserved : goal.loop-fact-preserved
loop-fact-preserved c =
    one_more (λ (f : Fact). KeepsFact c.args.others.now (position_of c.args.below.now) f → CoversFact c.args.facts.now (position_of c.args.above.now) f)
    c.args.others.now c.loop-fact.fact-index c.fact-item.result c.loop-fact-test.true c.fact-item.is c.loop-fact.invariant
    (λ kept. elim c.else-keeps.branch [
      | else-keeps-via-then-keeps+else-not-is_covered w ↦ w.is_covered.ensures.0 (cc)
      | else-keeps-via-else-keeps w ↦ absurd (let t : IsTrue c.keeps.result = c.keeps.ensures.1 kept in cc)
    ])

pub returns : goal.returns
returns c = (
  λ h fact among. All-contains (λ (f : Fact). KeepsFact c.args.others.now (position_of c.args.below.now) f
      → CoversFact c.args.facts.now (position_of c.args.above.now) f) c.args.others.now fact
      (whole (λ (f : Fact). KeepsFact c.args.others.now (position_of c.args.below.now) f → CoversFact c.args.facts.now (position_of c.args.above.now) f)
      c.args.others.now c.loop-fact.fact-index c.loop-fact-test.false c.loop-fact.invariant) among,
  λ h. refl,
)

pub returns-then-not-is_covered : goal.returns-then-not-is_covered
returns-then-not-is_covered c = grind (arith, common_steps)
