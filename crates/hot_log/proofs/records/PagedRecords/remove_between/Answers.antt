use Rattle.std.proofs.Common.{subst, List}
use Rattle.redo_core.specs.Data.{RecordData}
use Rattle.hot_log.specs.Removing.{IsBetween, Removes}
use Rattle.hot_log.proofs.Gone.{cut_members, cut_paged}
use Rattle.hot_log.proofs.Paged.{held_of, seen}
use Rattle.hot_log.proofs.records.PagedRecords.remove_between.Goals as goal

pub invariant_of-self : goal.invariant_of-self
invariant_of-self c = cut_paged c.self.inside.map c.remove_range.new.self c.args.page c.args.above c.args.to (record { was = c.self.invariant; ordered = c.remove_range.ensures.ordered; at = c.remove_range.ensures.loses })

pub returns-clause-removes : goal.returns-clause-removes
returns-clause-removes c =
    subst (λ (l : List RecordData). Removes (IsBetween c.args.page c.args.above c.args.to) l (seen c.remove_range.new.self)) c.self.view_is
    (cut_members c.self.inside.map c.remove_range.new.self c.args.page c.args.above c.args.to (record { was = c.self.invariant; ordered = c.remove_range.ensures.ordered; at = c.remove_range.ensures.loses }))

pub returns-clause-form : goal.returns-clause-form
returns-clause-form c = held_of c.remove_range.new.self (invariant_of-self c)
