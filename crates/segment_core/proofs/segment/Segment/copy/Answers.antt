use Rattle.std.proofs.Common.{arith}
use Rattle.std.proofs.lemmas.Grind.{common_steps}
use Rattle.segment_core.proofs.segment.Segment.copy.Goals as goal

pub invariant_of-result : goal.invariant_of-result
invariant_of-result c = rw (c.in_ok-copy.ensures, c.in_ok-copy-2.ensures, c.in_ok-copy-3.ensures, c.in_ok-copy-4.ensures) c.self.invariant

pub same-result : goal.same-result
same-result c = grind (arith, common_steps)

pub same-result-2 : goal.same-result-2
same-result-2 c = grind (arith, common_steps)
