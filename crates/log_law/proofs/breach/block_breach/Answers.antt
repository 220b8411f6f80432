use Rattle.std.proofs.Common.{◌≡◌, sym, subst}
use Rattle.std.specs.Prelude.{IfOk, MatchOption}
use Rattle.redo_core.specs.Order.{IsGreatest}
use Rattle.redo_core.specs.Sound.{IsAliveBelow, Law4}
use Rattle.log_law.specs.Breach.{ReportsLink, ReportsBlock}
use Rattle.log_law.proofs.breach.block_breach.Goals as goal

pub returns-in-Record : goal.returns-in-Record
returns-in-Record c =
    let log = c.args.facts.now in let r = c.in-Record.redo in
    subst (λ f. IfOk c.link_breach.result (λ found. MatchOption found (Law4 log f) (ReportsBlock log f))) (sym c.in-Record.is)
    (subst (λ page. IfOk c.link_breach.result (λ found. MatchOption found (IsGreatest (IsAliveBelow log r (λ s. s.page ≡ page)) r.block_back)
    (ReportsLink log r (λ s. s.page ≡ page) r.block_back))) c.page.ensures
    (subst (λ back. IfOk c.link_breach.result (λ found. MatchOption found (IsGreatest (IsAliveBelow log r (λ s. s.page ≡ c.page.result)) back)
    (ReportsLink log r (λ s. s.page ≡ c.page.result) back))) c.block_back.ensures.value c.link_breach.ensures))
