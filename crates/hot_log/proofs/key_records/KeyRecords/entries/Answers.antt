use Rattle.std.proofs.Common.{sym, subst, ◌∙◌}
use Rattle.redo_core.specs.Keys.{key_cmp}
use Rattle.redo_core.specs.Order.{IsRising}
use Rattle.hot_log.specs.Scanning.{EntryBefore}
use Rattle.hot_log.proofs.Maps.{rising_entries}
use Rattle.hot_log.proofs.key_records.KeyRecords.entries.Goals as goal

pub returns-clause-all : goal.returns-clause-all
returns-clause-all c = c.iter.ensures.rest ∙ c.self.view_is

pub returns-clause-rising : goal.returns-clause-rising
returns-clause-rising c = subst (IsRising EntryBefore) (sym c.iter.ensures.rest) (rising_entries key_cmp c.self.inside.map c.self.invariant)
