use Rattle.std.proofs.Common.{sym, subst, List, Option}
use Rattle.redo_core.specs.Data.{RecordData}
use Rattle.redo_core.specs.declared.keys.Key.{Key}
use Rattle.hot_log.specs.Held.{IsGreatestHeld}
use Rattle.hot_log.proofs.Indexed.{greatest_held}
use Rattle.hot_log.proofs.log.HotLog.greatest_key.Goals as goal

pub returns-clause-greatest : goal.returns-clause-greatest
returns-clause-greatest c =
    subst (λ (o : Option Key). IsGreatestHeld c.args.self.now o) (sym c.unpacked.ensures)
    (subst (λ (l : List RecordData). IsGreatestHeld l c.greatest_key.result) c.self.view_is
    (greatest_held c.self.inside.records c.self.inside.by_key c.greatest_key.result c.self.invariant.by_key c.greatest_key.ensures))
