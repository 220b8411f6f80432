use Rattle.std.proofs.Common.{take}
use Rattle.std.specs.List.{All}
use Rattle.epoch_book.specs.Refusing.{Contradict}
use Rattle.epoch_book.proofs.advances.first_against.Given as goal

abbrev pub invariant-loop-wait : goal.invariant-loop-wait
invariant-loop-wait l = All (λ a. Contradict l.cut a → ⊥) (take l.wait-index l.waits)
