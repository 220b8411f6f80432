use Rattle.std.proofs.Common.{refl, rules}
use Rattle.log_law.specs.Targets.{IsOfPage}
use Rattle.log_law.proofs.Breaches.{link_passed, link_above, link_right}
use Rattle.log_law.proofs.breach.link_breach.Goals as goal

pub returns-then-back-target : goal.returns-then-back-target
returns-then-back-target c = search (rules, link_passed)

pub returns-then-target-back : goal.returns-then-target-back
returns-then-target-back c = (
  refl,
  link_above c.args.facts.now c.args.redo.now (λ s. IsOfPage c.args.page s) c.in_ok-target.target c.args.back c.in_ok-target.ensures c.if-target-back.true,
)

pub returns : goal.returns
returns c =
    link_right c.args.facts.now c.args.redo.now (λ s. IsOfPage c.args.page s) c.in_ok-target.target c.args.back c.in_ok-target.ensures c.if-target-back.false
    c.if-back-target.false
