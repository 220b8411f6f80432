use Rattle.std.proofs.Common.{subst, List}
use Rattle.std.specs.Option.{option_copied}
use Rattle.redo_core.specs.Data.{RecordData}
use Rattle.hot_log.specs.Indexing.{IsLastRecord}
use Rattle.hot_log.proofs.Capped.{last_record_given}
use Rattle.hot_log.proofs.log.HotLog.last_of_page.Goals as goal

pub returns-clause-last : goal.returns-clause-last
returns-clause-last c =
    subst (λ (l : List RecordData). IsLastRecord l c.args.page c.args.to (option_copied c.last.result)) c.self.view_is
    (last_record_given c.self.inside.records c.args.page c.args.to c.capped.result (option_copied c.last.result) c.self.invariant.form c.capped.ensures c.last.ensures.last)
