use Rattle.std.proofs.lemmas.Grind.{common_steps}
use Rattle.std.proofs.Common.{sym, subst, arith}
use Rattle.script_steps.specs.declared.steps.Step.TheVariants.{Wipe}
use Rattle.fleet_core.specs.declared.replies.Reply.TheVariants.{Wiped}
use Rattle.fleet_core.specs.AtNode.{OwnFollows}
use Rattle.fleet_core.proofs.Merging.{follows_wipe}
use Rattle.fleet_core.proofs.fleets.wipe.Goals as goal

pub returns-in-Ok-clause-follows : goal.returns-in-Ok-clause-follows
returns-in-Ok-clause-follows c = λ node other.
    subst (λ s. OwnFollows c.args.roster c.args.segment.now other (Wipe node) Wiped s) (sym c.in-Ok.ensures.empty)
    (follows_wipe c.args.roster c.args.segment.now other node)

pub returns-in-Ok-clause-calls : goal.returns-in-Ok-clause-calls
returns-in-Ok-clause-calls c = grind (arith, common_steps)

pub returns-in-Ok-clause-refused : goal.returns-in-Ok-clause-refused
returns-in-Ok-clause-refused c = grind (arith, common_steps)
