use Rattle.std.proofs.lemmas.Grind.{common_steps}
use Rattle.std.proofs.Common.{◌<◌, ◌↔◌, sym, subst, arith, IsTrue}
use Rattle.std.specs.List.{Contains}
use Rattle.epoch_book.specs.Book.{book_of}
use Rattle.epoch_book.specs.Learning.{KnowsAdvance}
use Rattle.epoch_book.proofs.Found.{found_wait, known_later}
use Rattle.epoch_book.proofs.book.EpochBook.has_advance.Goals as goal

pub returns-then-self-epoch : goal.returns-then-self-epoch
returns-then-self-epoch c =
    let b = book_of c.self.inside.cuts.items c.self.inside.complete c.self.inside.points c.self.inside.waits in
    let found = found_wait c.as_slice.result.now c.args.advance c.place_of_advance.result c.place_of_advance.ensures.found c.place_of_advance.ensures.absent in
    let later : b.complete < c.args.advance.epoch = omega (arith, c.if-self-epoch.true, c.epoch.ensures.value) in
    let known = known_later b c.args.advance later in
    subst (λ x. IsTrue c.is_ok.result ↔ KnowsAdvance x c.args.advance) c.self.view_is (
      λ h. known.1 (subst (λ ws. Contains ws c.args.advance) c.as_slice.ensures (found.0 (subst IsTrue c.is_ok.ensures.value h))),
      λ h. subst IsTrue (sym c.is_ok.ensures.value) (found.1 (subst (λ ws. Contains ws c.args.advance) (sym c.as_slice.ensures) (known.0 h))),
    )

pub returns-in-Some : goal.returns-in-Some
returns-in-Some c = grind (arith, common_steps)

pub returns-in-None : goal.returns-in-None
returns-in-None c = grind (arith, common_steps)
