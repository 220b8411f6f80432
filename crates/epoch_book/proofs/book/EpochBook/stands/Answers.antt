use Rattle.std.proofs.Common.{subst}
use Rattle.redo_core.specs.CompleteEpoch.{IsCompleteEpoch}
use Rattle.epoch_book.proofs.book.EpochBook.stands.Goals as goal

pub returns-then-epoch-self-clause-complete : goal.returns-then-epoch-self-clause-complete
returns-then-epoch-self-clause-complete c = subst (λ b. IsCompleteEpoch b.cuts b.complete) c.self.view_is c.self.invariant.0.complete

pub returns-then-is_alive-clause-complete : goal.returns-then-is_alive-clause-complete
returns-then-is_alive-clause-complete c = subst (λ b. IsCompleteEpoch b.cuts b.complete) c.self.view_is c.self.invariant.0.complete

pub returns-else-is_alive-clause-complete : goal.returns-else-is_alive-clause-complete
returns-else-is_alive-clause-complete c = subst (λ b. IsCompleteEpoch b.cuts b.complete) c.self.view_is c.self.invariant.0.complete
