use Rattle.std.proofs.Common.{subst, List}
use Rattle.redo_core.specs.Data.{RecordData}
use Rattle.hot_log.specs.Kept.{IsKeptAbove, ListsKeysOf}
use Rattle.redo_core.specs.Keys.{key_in}
use Rattle.hot_log.proofs.Capped.{kept_given}
use Rattle.hot_log.proofs.Pages.{if_ok}
use Rattle.hot_log.proofs.Kept.{kept_records}
use Rattle.hot_log.proofs.view.BookView.kept_keys.Goals as goal

pub returns : goal.returns
returns c =
    let b = c.args.self.now.book.now in let point = c.args.point in
    if_ok c.kept_keys.result _ _
    (λ v lists. subst (λ (l : List RecordData). ListsKeysOf (IsKeptAbove b l point) v.items) c.held.view_is
    (kept_records b c.held.inside.records c.held.inside.by_key point c.epoch_above.result v.items c.held.invariant.form.rising c.held.invariant.by_key
    c.epoch_above.ensures.parts c.epoch_above.ensures.known
    (kept_given b c.held.inside.records c.held.inside.by_key point (key_in c.epoch_above.result point) c.capped-above.result v.items c.held.invariant.form c.held.invariant.by_key c.capped-above.ensures lists)))
    c.kept_keys.ensures
