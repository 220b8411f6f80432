use Rattle.std.proofs.Common.{◌≡◌, ◌<◌, length, subst, arith}
use Rattle.std.specs.List.{Contains}
use Rattle.redo_core.specs.Data.{CutData}
use Rattle.redo_core.specs.Past.{CutsBelow}
use Rattle.epoch_book.specs.Book.{BookData, book_of}
use Rattle.epoch_book.proofs.Against.{is_later, spare_by}
use Rattle.epoch_book.proofs.book.EpochBook.is_spared.Goals as goal

pub returns-then-readers-gt1 : goal.returns-then-readers-gt1
returns-then-readers-gt1 c = λ h.
    let b = book_of c.self.inside.cuts.items c.self.inside.complete c.self.inside.points c.self.inside.waits in
    let a = c.args.advance in
    subst (λ (b : BookData). (x : CutData) → Contains b.cuts x → CutsBelow b.complete b.points b.waits x a → b.complete < x.epoch) c.self.view_is
    (is_later b c.self.inside.lows.items a c.self.invariant.1
    (λ (one : length c.self.inside.points ≡ 1). absurd (omega (arith, one, c.if-readers-gt1.true, c.readers.ensures.value))))

pub returns-else-readers-gt1 : goal.returns-else-readers-gt1
returns-else-readers-gt1 c = λ h.
    let b = book_of c.self.inside.cuts.items c.self.inside.complete c.self.inside.points c.self.inside.waits in
    let a = c.args.advance in
    let lows = c.self.inside.lows.items in
    subst (λ (b : BookData). (x : CutData) → Contains b.cuts x → CutsBelow b.complete b.points b.waits x a → b.complete < x.epoch) c.self.view_is
    (is_later b lows a c.self.invariant.1
    (λ one. spare_by lows c.deref.result.now a c.epoch.result c.point.result c.deref.ensures.value c.epoch.ensures.value c.point.ensures.value
    (c.spare.ensures.0 h)))
