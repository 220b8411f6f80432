use Rattle.std.proofs.Common.{sym, subst, List, Option, None}
use Rattle.redo_core.specs.Data.{RecordData}
use Rattle.redo_core.specs.declared.keys.Key.{Key}
use Rattle.hot_log.specs.Held.{IsKeyAfter}
use Rattle.hot_log.proofs.Indexed.{key_held}
use Rattle.hot_log.proofs.log.HotLog.key_after.Goals as goal

pub returns-in-None : goal.returns-in-None
returns-in-None c =
    subst (λ (a : Option Key). IsKeyAfter c.args.self.now a c.unpacked.result) (sym c.in-None.is)
    (subst (λ (o : Option Key). IsKeyAfter c.args.self.now None o) (sym c.unpacked.ensures)
    (subst (λ (l : List RecordData). IsKeyAfter l None c.key_after.result) c.self.view_is
    (key_held c.self.inside.records c.self.inside.by_key None c.key_after.result c.self.invariant.by_key c.key_after.ensures)))
