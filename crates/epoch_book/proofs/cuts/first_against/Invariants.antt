use Rattle.std.proofs.Common.{take}
use Rattle.std.specs.List.{All}
use Rattle.epoch_book.specs.Refusing.{CutsBelow}
use Rattle.epoch_book.proofs.cuts.first_against.Given as goal

abbrev pub invariant-loop-cut : goal.invariant-loop-cut
invariant-loop-cut l = All (λ c. CutsBelow l.complete l.points l.waits c l.advance → ⊥) (take l.cut-index l.cuts)
