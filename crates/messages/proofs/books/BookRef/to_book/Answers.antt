use Rattle.std.proofs.Common.{arith}
use Rattle.std.proofs.lemmas.Grind.{common_steps}
use Rattle.messages.proofs.books.BookRef.to_book.Goals as goal

pub new-requires : goal.new-requires
new-requires c = grind (arith, common_steps)
