use Rattle.std.proofs.Common.{subst, List, rules}
use Rattle.hot_log.proofs.Maps.{none_leaves}
use Rattle.hot_log.specs.Indexing.{LosesEntry}
use Rattle.hot_log.proofs.Keyed.{Entry, entry_at, entries_lose}
use Rattle.hot_log.proofs.key_records.KeyRecords.remove.Goals as goal

pub returns-clause-had : goal.returns-clause-had
returns-clause-had c = search (rules, entry_at)

pub returns-clause-loses : goal.returns-clause-loses
returns-clause-loses c =
    let P : List Entry → Type 0 = λ l. LosesEntry l c.args.key c.remove.new.self in
    subst P c.self.view_is (entries_lose c.self.inside.map c.remove.new.self c.args.key c.self.invariant c.remove.ensures.loses)

pub returns-clause-unchanged : goal.returns-clause-unchanged
returns-clause-unchanged c none = search (rules, none_leaves)
