use Rattle.std.proofs.Common.{◌++◌, arith}
use Rattle.std.proofs.lemmas.Bool.Decides.{nat_tests}
use Rattle.segment_join.proofs.Visiting.{next_is_written, next_is_above, none_is_above}
use Rattle.segment_join.proofs.sameness.is_written.Goals as goal

pub returns-in-Some-clause-written : goal.returns-in-Some-clause-written
returns-in-Some-clause-written c = λ h. next_is_written (c.args.one.now.held ++ c.args.other.now.held) c.args.page c.checked_sub.result c.in-Some.next c.in-Some.ensures (grind (arith, nat_tests, h))

pub returns-in-Some-clause-unwritten : goal.returns-in-Some-clause-unwritten
returns-in-Some-clause-unwritten c = λ h. next_is_above (c.args.one.now.held ++ c.args.other.now.held) c.args.page c.checked_sub.result c.in-Some.next c.checked_sub.ensures c.in-Some.ensures (λ same. grind (arith, nat_tests, h, same))

pub returns-in-None-clause-unwritten : goal.returns-in-None-clause-unwritten
returns-in-None-clause-unwritten c = λ h. none_is_above (c.args.one.now.held ++ c.args.other.now.held) c.args.page c.checked_sub.result c.checked_sub.ensures c.in-None.ensures
