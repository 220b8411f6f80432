use Rattle.std.proofs.lemmas.Grind.{common_steps}
use Rattle.std.proofs.Common.{subst, arith}
use Rattle.std.specs.Prelude.{IfNone}
use Rattle.crossbeam_queue.specs.Passes.{view}
use Rattle.intake_queue.specs.Heard.{HasTakenAllHeard}
use Rattle.intake_queue.proofs.Moving.{takes, holds_rest, nothing_left}
use Rattle.intake_queue.proofs.intake.Intake.take_next.Goals as goal

pub pop_as-requires-clause-rule : goal.pop_as-requires-clause-rule
pop_as-requires-clause-rule g c = (takes _ _ c.taker.invariant.1, holds_rest _ _ c.taker.invariant.1)

pub returns-clause-empty : goal.returns-clause-empty
returns-clause-empty g c =
    subst (λ t. IfNone c.pop_as.result (HasTakenAllHeard t)) c.taker.view_is (nothing_left _ _ (view c.taker.inside.pass) c.pop_as.result c.pop_as.ensures.rule)

pub returns-clause-some : goal.returns-clause-some
returns-clause-some g c = grind (arith, common_steps)

pub returns-clause-next : goal.returns-clause-next
returns-clause-next g c = grind (arith, common_steps)

pub returns-clause-none : goal.returns-clause-none
returns-clause-none g c = grind (arith, common_steps)
