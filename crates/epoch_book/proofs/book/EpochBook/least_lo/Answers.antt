use Rattle.std.proofs.Common.{rules}
use Rattle.epoch_book.proofs.Least.{least_from}
use Rattle.epoch_book.proofs.book.EpochBook.least_lo.Goals as goal

pub returns-clause-least : goal.returns-clause-least
returns-clause-least c = search (rules, least_from)
