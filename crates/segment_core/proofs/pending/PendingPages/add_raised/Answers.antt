use Rattle.std.proofs.Common.{sym, subst, arith}
use Rattle.segment_core.specs.PendingPages.{IsMoreDue}
use Rattle.segment_core.proofs.DuePages.{raised_top}
use Rattle.segment_core.proofs.pending.PendingPages.add_raised.Goals as goal

pub returns-clause-more : goal.returns-clause-more
returns-clause-more c =
    let i = c.self.inside in
    raised_top c.args.self.now (record { pages = i.pages.items; all = i.all; top = i.top }) c.max-self-inside.result
    (subst (IsMoreDue c.args.self.now) (sym c.self.view_is) c.add.ensures.more) (omega arith)
