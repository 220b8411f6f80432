use Rattle.std.proofs.Common.{subst, List}
use Rattle.std.specs.Option.{option_copied}
use Rattle.redo_core.specs.Data.{RecordData}
use Rattle.hot_log.specs.Indexing.{IsNextRecord}
use Rattle.hot_log.proofs.Capped.{next_record_given}
use Rattle.hot_log.proofs.log.HotLog.next_of_page.Goals as goal

pub returns-clause-next : goal.returns-clause-next
returns-clause-next c =
    subst (λ (l : List RecordData). IsNextRecord l c.args.page c.args.after (option_copied c.next.result)) c.self.view_is
    (next_record_given c.self.inside.records c.args.page c.args.after c.capped.result (option_copied c.next.result) c.self.invariant.form c.capped.ensures c.next.ensures.next)
