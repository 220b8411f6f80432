use Rattle.std.proofs.Common.{◌≡◌, ◌≤◌, subst}
use Rattle.std.specs.List.{Contains}
use Rattle.redo_core.specs.Data.{CutData}
use Rattle.redo_core.specs.Order.{IsGreatest}
use Rattle.epoch_book.specs.Book.{book_of}
use Rattle.epoch_book.specs.Lows.{CutsAt}
use Rattle.epoch_book.proofs.Least.{last_cut}
use Rattle.epoch_book.proofs.book.EpochBook.last_cut_at.Goals as goal

pub returns-clause-value : goal.returns-clause-value
returns-clause-value c =
    let b = book_of c.self.inside.cuts.items c.self.inside.complete c.self.inside.points c.self.inside.waits in
    let number = c.args.number in let last = c.last_at.result in
    subst (λ b. IsGreatest (CutsAt b number) last) c.self.view_is
    (last_cut b number last c.self.inside.lows.items c.self.invariant.1
    (subst (λ lows. IsGreatest (λ e. (d : CutData) × Contains lows d × (d.epoch ≡ e) × (d.lo ≤ number)) last) c.deref.ensures.value c.last_at.ensures))
