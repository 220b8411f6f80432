use Rattle.std.proofs.Common.{arith}
use Rattle.std.proofs.lemmas.Grind.{common_steps}
use Rattle.redo_core.specs.Order.{AdvanceBefore}
use Rattle.epoch_book.specs.Refusing.{Contradict}
use Rattle.epoch_book.proofs.Rising.{first_place}
use Rattle.redo_core.proofs.Scans.{whole}
use Rattle.epoch_book.proofs.advances.first_against.Goals as goal
use Rattle.epoch_book.proofs.advances.first_against.Goals.{else-epoch-via-then-epoch+else-lo-point, else-epoch-via-else-epoch}

pub returns-then-lo-point-clause-first : goal.returns-then-lo-point-clause-first
returns-then-lo-point-clause-first c =
    first_place AdvanceBefore (λ x. Contradict c.args.cut x) c.args.waits.now c.loop-wait.wait-index c.wait-item.result c.requires c.loop-wait-test.true
    c.wait-item.is (omega arith, omega arith) c.loop-wait.invariant

pub loop-wait-preserved : goal.loop-wait-preserved
loop-wait-preserved c = grind (arith, common_steps)

pub returns-clause-none : goal.returns-clause-none
returns-clause-none c = λ _. whole (λ x. Contradict c.args.cut x → ⊥) c.args.waits.now c.loop-wait.wait-index c.loop-wait-test.false c.loop-wait.invariant
