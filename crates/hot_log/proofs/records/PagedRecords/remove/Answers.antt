use Rattle.std.proofs.Common.{subst, ◌≡◌, List}
use Rattle.redo_core.specs.Data.{RecordData}
use Rattle.hot_log.specs.Held.{HasKey}
use Rattle.hot_log.specs.Removing.{Removes}
use Rattle.hot_log.proofs.Paged.{seen, shrunk_members, shrunk_paged, held_of}
use Rattle.hot_log.proofs.records.PagedRecords.remove.Goals as goal

pub invariant_of-self : goal.invariant_of-self
invariant_of-self c = shrunk_paged c.self.inside.map c.remove.new.self c.args.page c.args.key (record { was = c.self.invariant; ordered = c.remove.ensures.ordered; at = c.remove.ensures.loses })

pub returns-clause-removes : goal.returns-clause-removes
returns-clause-removes c =
    subst (λ (l : List RecordData). Removes (λ r. (r.page ≡ c.args.page) × HasKey c.args.key r) l (seen c.remove.new.self)) c.self.view_is
    (shrunk_members c.self.inside.map c.remove.new.self c.args.page c.args.key (record { was = c.self.invariant; ordered = c.remove.ensures.ordered; at = c.remove.ensures.loses }))

pub returns-clause-form : goal.returns-clause-form
returns-clause-form c = held_of c.remove.new.self (invariant_of-self c)
