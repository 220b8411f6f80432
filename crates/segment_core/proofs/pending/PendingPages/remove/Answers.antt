use Rattle.std.proofs.Common.{List, ℕ, subst, sym}
use Rattle.segment_core.specs.PendingPages.{PendingData, HasPending, RemovesInPages}
use Rattle.segment_core.proofs.DuePages.{of_pages}
use Rattle.segment_core.proofs.pending.PendingPages.remove.Goals as goal

pub returns-else-self-clause-removes : goal.returns-else-self-clause-removes
returns-else-self-clause-removes c =
    let i = c.self.inside in
    let d : PendingData = record { pages = i.pages.items; all = i.all; top = i.top } in
    of_pages c.args.book.now c.args.store.now d c.args.point c.args.hot.now c.remove_in_pages.new.hot
    (subst (HasPending c.args.book.now c.args.hot.now c.args.store.now) (sym c.self.view_is) c.requires.due) c.if-self.false
    (subst (λ (pages : List ℕ). RemovesInPages c.args.book.now c.args.store.now c.args.point pages c.args.hot.now c.remove_in_pages.new.hot)
    c.deref.ensures.value c.remove_in_pages.ensures.removes)
