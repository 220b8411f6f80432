use Rattle.std.proofs.Common.{List, subst}
use Rattle.hot_log.specs.Indexing.{AreAbove}
use Rattle.hot_log.proofs.Keyed.{Entry, are_above}
use Rattle.hot_log.proofs.key_records.KeyRecords.above.Goals as goal

pub returns : goal.returns
returns c = subst (λ (l : List Entry). AreAbove l c.args.after c.above.result) c.self.view_is (are_above c.self.inside.map c.args.after c.above.result c.self.invariant c.above.ensures.above)
