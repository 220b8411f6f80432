use Rattle.std.proofs.Common.{◌<◌, ◌≤◌, inl, ⊎_elim, ap, subst, arith, List, map, Bor}
use Rattle.redo_core.specs.Data.{RecordData}
use Rattle.redo_core.specs.Keys.{key_in}
use Rattle.hot_log.specs.Alive.{IsHeldOf, IsAliveBetween}
use Rattle.hot_log.specs.Anew.{ListsAnew}
use Rattle.redo_core.specs.declared.keys.Key.{Key}
use Rattle.hot_log.proofs.Capped.{between_same}
use Rattle.hot_log.proofs.Pages.{if_ok, number_is, none_between}
use Rattle.hot_log.proofs.Descending.{anew_as}
use Rattle.hot_log.proofs.view.BookView.records_since_init.Goals as goal

pub returns-then-above-to : goal.returns-then-above-to
returns-then-above-to c =
    inl (none_between c.args.self.now.book.now c.args.self.now.held.now c.args.page c.args.from c.args.to c.epoch_above.result c.last_key_to-to.result (map (λ x. x.now) c.new.result.items)
    c.epoch_above.ensures.parts c.last_key_to-to.ensures.parts
    (λ le lt. ⊎_elim
    (λ (u : c.last_key_to-to.result.epoch < c.epoch_above.result). omega arith)
    (λ (u : (c.epoch_above.result ≤ c.last_key_to-to.result.epoch) × (c.last_key_to-to.result.number ≤ c.args.from)). omega (arith, u.1, c.last_key_to-to.ensures.number))
    c.then-above-to.either)
    (ap (λ (l : List (Bor RecordData)). map (λ x. x.now) l) c.new.ensures.items))

pub returns : goal.returns
returns c =
    let b = c.args.self.now.book.now in let held = c.held.inside.records in let above : Key = key_in c.epoch_above.result c.args.from in
    if_ok c.alive_since_init.result _ _
    (λ v h. subst (λ (l : List RecordData). ListsAnew (IsHeldOf b l c.args.page c.args.from c.args.to) (map (λ x. x.now) v.items)) c.held.view_is
    (anew_as (IsAliveBetween b held c.args.page (key_in c.epoch_above.result c.args.from) c.last_key_to-to.result) (IsHeldOf b held c.args.page c.args.from c.args.to) (map (λ x. x.now) v.items)
    (number_is b held c.args.page c.args.from c.args.to c.epoch_above.result c.last_key_to-to.result c.epoch_above.ensures.parts c.last_key_to-to.ensures.parts)
    (anew_as (IsAliveBetween b held c.args.page c.capped-above.result c.capped-to.result) (IsAliveBetween b held c.args.page above c.last_key_to-to.result) (map (λ x. x.now) v.items)
    (between_same b held c.args.page above c.last_key_to-to.result c.capped-above.result c.capped-to.result c.held.invariant.form c.capped-above.ensures c.capped-to.ensures) h)))
    c.alive_since_init.ensures
