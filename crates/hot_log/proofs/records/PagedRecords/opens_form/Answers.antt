use Rattle.std.proofs.Common.{subst}
use Rattle.hot_log.specs.Held.{IsHeld}
use Rattle.hot_log.proofs.Paged.{held_of}
use Rattle.hot_log.proofs.records.PagedRecords.opens_form.Goals as goal

pub returns : goal.returns
returns c = record { form = subst IsHeld c.self.view_is (held_of c.self.inside.map c.self.invariant) }
