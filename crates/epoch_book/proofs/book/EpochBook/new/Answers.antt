use Rattle.std.proofs.Common.{◌∙◌}
use Rattle.epoch_book.proofs.Books.{new_book, new_knows}
use Rattle.epoch_book.proofs.book.EpochBook.new.Goals as goal

pub returns-clause-knows : goal.returns-clause-knows
returns-clause-knows c = new_knows c.args.roster _ _ _ c.new-2.ensures.items c.in_ok-points.ensures.zeros (c.new-5.ensures ∙ c.new-4.ensures.items)

pub invariant_of-result : goal.invariant_of-result
invariant_of-result c =
    new_book c.args.roster c.new-2.result.items c.new-3.result.items c.in_ok-points.points c.new-5.result c.in_ok-points.ensures.range
    c.new-2.ensures.items c.new-3.ensures.items c.in_ok-points.ensures.zeros (c.new-5.ensures ∙ c.new-4.ensures.items)

pub returns-clause-book : goal.returns-clause-book
returns-clause-book c = (invariant_of-result c).0
