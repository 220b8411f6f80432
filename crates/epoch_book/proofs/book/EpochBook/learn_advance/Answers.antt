use Rattle.std.proofs.lemmas.Grind.{common_steps}
use Rattle.std.proofs.Common.{ap, Err, arith}
use Rattle.std.proofs.lemmas.Result.{on_ok_weaker}
use Rattle.epoch_book.proofs.Books.{advance_knows}
use Rattle.epoch_book.proofs.OneReason.{one_advance_refusal}
use Rattle.epoch_book.proofs.book.EpochBook.learn_advance.Goals as goal

pub returns-in-Some-clause-refuses : goal.returns-in-Some-clause-refuses
returns-in-Some-clause-refuses c = λ e h. ap Err (one_advance_refusal c.args.self.now c.args.advance c.in-Some.refusal e c.in-Some.ensures.some h)

pub returns-then-epoch-self-clause-knows : goal.returns-then-epoch-self-clause-knows
returns-then-epoch-self-clause-knows c = on_ok_weaker c.add_wait.result (advance_knows c.args.self.now c.args.advance c.add_wait.new.self) c.add_wait.ensures.ok

pub returns-clause-knows : goal.returns-clause-knows
returns-clause-knows c = advance_knows c.args.self.now c.args.advance c.count.new.self c.count.ensures.ok

pub returns-in-Some-clause-memory : goal.returns-in-Some-clause-memory
returns-in-Some-clause-memory c = grind (arith, common_steps)

pub returns-clause-memory : goal.returns-clause-memory
returns-clause-memory c = grind (arith, common_steps)

pub returns-then-epoch-self-clause-refused : goal.returns-then-epoch-self-clause-refused
returns-then-epoch-self-clause-refused c = grind (arith, common_steps)

pub add_wait-requires-clause-shaped : goal.add_wait-requires-clause-shaped
add_wait-requires-clause-shaped c = grind (arith, common_steps)

pub add_wait-requires-clause-later : goal.add_wait-requires-clause-later
add_wait-requires-clause-later c = grind (arith, common_steps)

pub returns-clause-known : goal.returns-clause-known
returns-clause-known c = grind (arith, common_steps)

pub returns-then-epoch-self-clause-memory : goal.returns-then-epoch-self-clause-memory
returns-then-epoch-self-clause-memory c = grind (arith, common_steps)

pub returns-in-Some-clause-refused : goal.returns-in-Some-clause-refused
returns-in-Some-clause-refused c = grind (arith, common_steps)

pub returns-then-epoch-self-clause-known : goal.returns-then-epoch-self-clause-known
returns-then-epoch-self-clause-known c = grind (arith, common_steps)

pub count-requires-clause-of_roster : goal.count-requires-clause-of_roster
count-requires-clause-of_roster c = grind (arith, common_steps)

pub count-requires-clause-counts : goal.count-requires-clause-counts
count-requires-clause-counts c = grind (arith, common_steps)

pub add_wait-requires-clause-of_roster : goal.add_wait-requires-clause-of_roster
add_wait-requires-clause-of_roster c = grind (arith, common_steps)
