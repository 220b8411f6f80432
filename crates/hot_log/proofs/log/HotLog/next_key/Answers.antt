use Rattle.std.proofs.Common.{sym, subst, List, Option, Some}
use Rattle.redo_core.specs.Data.{RecordData}
use Rattle.redo_core.specs.declared.keys.Key.{Key}
use Rattle.hot_log.specs.Held.{IsKeyAfter}
use Rattle.hot_log.proofs.Capped.{key_given}
use Rattle.hot_log.proofs.Indexed.{key_held}
use Rattle.hot_log.proofs.log.HotLog.next_key.Goals as goal

pub returns-clause-next : goal.returns-clause-next
returns-clause-next c =
    let held = c.self.inside.records in let p = c.capped.result in
    subst (λ (o : Option Key). IsKeyAfter c.args.self.now (Some c.args.after) o) (sym c.unpacked.ensures)
    (subst (λ (l : List RecordData). IsKeyAfter l (Some c.args.after) c.key_after.result) c.self.view_is
    (key_given held c.args.after p c.key_after.result c.self.invariant.form c.capped.ensures
    (key_held held c.self.inside.by_key (Some p) c.key_after.result c.self.invariant.by_key c.key_after.ensures)))
