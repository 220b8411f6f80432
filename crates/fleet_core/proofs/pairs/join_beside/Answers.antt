use Rattle.std.proofs.lemmas.Grind.{common_steps}
use Rattle.std.proofs.Common.{sym, subst, arith}
use Rattle.std.specs.Option.{option_copied}
use Rattle.script_steps.specs.declared.steps.Step.TheVariants.{Join}
use Rattle.fleet_core.specs.declared.replies.Reply.TheVariants.{Joined}
use Rattle.fleet_core.specs.AtNode.{OwnFollows}
use Rattle.fleet_core.proofs.Merging.{follows_join, follows_own_join}
use Rattle.fleet_core.proofs.pairs.join_beside.Goals as goal

pub returns-in-Some-clause-follows : goal.returns-in-Some-clause-follows
returns-in-Some-clause-follows c = λ readers node from.
    let e = c.join.ensures in
    let old = c.args.segment.now in let other = c.in-Some.other.now in let new = c.join.new.segment in
    subst (λ o. OwnFollows readers c.args.segment.now (option_copied o) (Join node from) c.joined_reply.result c.join.new.segment) (sym c.in-Some.is)
    (follows_join readers old other new node from c.join.result c.joined_reply.result e.means e.sound e.unchanged c.joined_reply.ensures)

pub returns-in-None-clause-follows : goal.returns-in-None-clause-follows
returns-in-None-clause-follows c = λ readers node from.
    subst (λ o. OwnFollows readers c.args.segment.now (option_copied o) (Join node from) Joined c.args.segment.now) (sym c.in-None.is)
    (follows_own_join readers c.args.segment.now node from)

pub returns-in-Some-clause-refused : goal.returns-in-Some-clause-refused
returns-in-Some-clause-refused c = grind (arith, common_steps)

pub returns-in-Some-clause-found : goal.returns-in-Some-clause-found
returns-in-Some-clause-found c = grind (arith, common_steps)

pub returns-in-Some-clause-named : goal.returns-in-Some-clause-named
returns-in-Some-clause-named c = grind (arith, common_steps)
