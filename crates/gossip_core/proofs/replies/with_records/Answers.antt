use Rattle.std.proofs.lemmas.Grind.{common_steps}
use Rattle.std.proofs.Common.{◌≢◌, sym, subst, arith}
use Rattle.std.specs.List.{AllByRecursion}
use Rattle.redo_core.specs.Book.{IsBook}
use Rattle.redo_core.specs.Meaning.{ImageData, ImageBefore}
use Rattle.redo_core.specs.Order.{IsRising}
use Rattle.redo_core.specs.Writing.{zeros}
use Rattle.gossip_core.proofs.replies.with_records.Goals as goal

pub new-requires-2 : goal.new-requires-2
new-requires-2 c = record {
  book = subst IsBook (sym c.in_ok-book.ensures.book) c.book_of.ensures.form.book;
  base = omega arith;
  no_base = λ _. c.new.ensures.items;
  pages = subst (IsRising ImageBefore) (sym c.new.ensures.items) tt;
  each_page = subst (AllByRecursion (λ (p : ImageData). p.bytes ≢ zeros)) (sym c.new.ensures.items) tt;
  records = c.in_ok-records.ensures.rising;
}

pub returns : goal.returns
returns c = grind (arith, common_steps)

pub unlisted-requires : goal.unlisted-requires
unlisted-requires c = grind (arith, common_steps)
