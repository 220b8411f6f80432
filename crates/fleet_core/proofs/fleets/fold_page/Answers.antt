use Rattle.std.proofs.lemmas.Grind.{common_steps}
use Rattle.std.proofs.Common.{rules, arith}
use Rattle.segment_theorems.specs.Promises.{KeepsMeaningWith}
use Rattle.fleet_core.proofs.Following.{follows_fold, follows_no_plan}
use Rattle.fleet_core.proofs.fleets.fold_page.Goals as goal

pub unreachable-requires : goal.unreachable-requires
unreachable-requires c = search rules

pub returns-in-Err-clause-follows : goal.returns-in-Err-clause-follows
returns-in-Err-clause-follows c =
    λ readers node other.
    let says = c.in-Err.ensures.result in
    follows_no_plan readers other c.args.segment.now node c.args.page c.in-Err.fault c.fault_reply.result says c.fault_reply.ensures

pub returns-in-Ok-commit_fold-clause-follows : goal.returns-in-Ok-commit_fold-clause-follows
returns-in-Ok-commit_fold-clause-follows c = λ readers node other.
    let plan = c.in-Ok.plan in
    let keeps : KeepsMeaningWith c.args.segment.now plan.page plan.version plan.image c.commit_fold.new.self =
    rw c.fold-folded.ensures at c.in-Ok-commit_fold.ensures.keeps in
    follows_fold readers other c.args.segment.now c.commit_fold.new.self node c.args.page plan c.in-Ok.ensures.result keeps

pub returns-in-Memory-clause-follows : goal.returns-in-Memory-clause-follows
returns-in-Memory-clause-follows c = grind (arith, common_steps)

pub returns-in-Ok-commit_fold-clause-calls : goal.returns-in-Ok-commit_fold-clause-calls
returns-in-Ok-commit_fold-clause-calls c = grind (arith, common_steps)

pub returns-in-Memory-clause-calls : goal.returns-in-Memory-clause-calls
returns-in-Memory-clause-calls c = grind (arith, common_steps)
