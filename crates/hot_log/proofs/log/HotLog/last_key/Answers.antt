use Rattle.std.proofs.Common.{sym, subst, List, Option}
use Rattle.redo_core.specs.Data.{RecordData}
use Rattle.redo_core.specs.declared.keys.Key.{Key}
use Rattle.hot_log.specs.Held.{IsKeyTo}
use Rattle.hot_log.proofs.Capped.{key_to_given}
use Rattle.hot_log.proofs.Indexed.{key_held_to}
use Rattle.hot_log.proofs.log.HotLog.last_key.Goals as goal

pub returns-clause-last : goal.returns-clause-last
returns-clause-last c =
    let held = c.self.inside.records in let p = c.capped.result in
    subst (λ (o : Option Key). IsKeyTo c.args.self.now c.args.to o) (sym c.unpacked.ensures)
    (subst (λ (l : List RecordData). IsKeyTo l c.args.to c.key_to.result) c.self.view_is
    (key_to_given held c.args.to p c.key_to.result c.self.invariant.form c.capped.ensures
    (key_held_to held c.self.inside.by_key p c.key_to.result c.self.invariant.by_key c.key_to.ensures)))
