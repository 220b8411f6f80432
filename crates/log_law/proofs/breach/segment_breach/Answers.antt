use Rattle.std.proofs.Common.{sym, subst}
use Rattle.std.specs.Prelude.{IfOk, MatchOption}
use Rattle.redo_core.specs.Order.{IsGreatest}
use Rattle.redo_core.specs.Sound.{IsAliveBelow, Law3}
use Rattle.log_law.specs.Breach.{ReportsLink, ReportsSegment}
use Rattle.log_law.proofs.breach.segment_breach.Goals as goal

pub returns-in-Record : goal.returns-in-Record
returns-in-Record c =
    let log = c.args.facts.now in let r = c.in-Record.redo in
    subst (λ f. IfOk c.link_breach.result (λ found. MatchOption found (Law3 log f) (ReportsSegment log f))) (sym c.in-Record.is)
    (subst (λ back. IfOk c.link_breach.result (λ found. MatchOption found (IsGreatest (IsAliveBelow log r (λ s. Unit {0})) back)
    (ReportsLink log r (λ s. Unit {0}) back))) c.back.ensures.value c.link_breach.ensures)
