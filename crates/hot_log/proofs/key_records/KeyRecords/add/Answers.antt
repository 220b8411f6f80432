use Rattle.std.proofs.Common.{subst, List, sym, None}
use Rattle.redo_core.specs.Data.{RecordData}
use Rattle.hot_log.specs.Indexing.{IsUnderKey, GainsEntry}
use Rattle.hot_log.proofs.Keyed.{Entry, joins_entry}
use Rattle.hot_log.proofs.key_records.KeyRecords.add.Goals as goal

pub returns-clause-gains : goal.returns-clause-gains
returns-clause-gains c =
    let old = c.self.inside.map in let new = c.insert.new.self in let key = c.args.key in
    subst (λ (l : List Entry). GainsEntry l key c.args.redo.now new) c.self.view_is
    (subst (λ (r : RecordData). GainsEntry old key r new) c.in_ok-copied.ensures
    (joins_entry old new key c.in_ok-copied.copied (subst (λ (l : List Entry). IsUnderKey l key None) (sym c.self.view_is) c.requires) c.in_ok-_had.ensures.gains))
