use Rattle.std.proofs.Common.{sym, subst, List, refl}
use Rattle.std.specs.Option.{option_copied}
use Rattle.redo_core.specs.Data.{RecordData}
use Rattle.redo_core.specs.declared.keys.Key.{Key}
use Rattle.hot_log.specs.Held.{IsRecordAt}
use Rattle.hot_log.proofs.Capped.{none_exact}
use Rattle.hot_log.proofs.Indexed.{stored_at}
use Rattle.hot_log.proofs.log.HotLog.get.Goals as goal

pub returns-in_err-exact : goal.returns-in_err-exact
returns-in_err-exact c =
    subst (λ o. IsRecordAt c.args.self.now c.args.key (option_copied o)) (sym c.from_residual.ensures)
    (none_exact c.args.self.now c.args.key c.opens_form.ensures.form (c.in_err-exact.ensures.none refl))

pub returns : goal.returns
returns c =
    let p = c.in_ok-exact.field-0 in
    subst (λ (k : Key). IsRecordAt c.args.self.now k (option_copied c.get.result)) c.in_ok-exact.ensures.some
    (subst (λ (l : List RecordData). IsRecordAt l p (option_copied c.get.result)) c.self.view_is
    (stored_at c.self.inside.records c.self.inside.by_key p.epoch p.number (option_copied c.get.result) c.self.invariant.by_key c.get.ensures))
