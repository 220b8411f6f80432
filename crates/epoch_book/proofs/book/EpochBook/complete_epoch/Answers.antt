use Rattle.std.proofs.Common.{subst}
use Rattle.redo_core.specs.CompleteEpoch.{IsCompleteEpoch}
use Rattle.epoch_book.proofs.book.EpochBook.complete_epoch.Goals as goal

pub returns-clause-complete : goal.returns-clause-complete
returns-clause-complete c = subst (λ b. IsCompleteEpoch b.cuts c.self.inside.complete) c.self.view_is c.self.invariant.0.complete
