use Rattle.std.proofs.Common.{◌∙◌, sym, ap, subst, List, length}
use Rattle.redo_core.specs.Data.{RecordData}
use Rattle.hot_log.specs.Held.{IsHeld}
use Rattle.hot_log.proofs.Paged.{held_of, seen_long}
use Rattle.hot_log.proofs.records.PagedRecords.len.Goals as goal

pub returns-clause-value : goal.returns-clause-value
returns-clause-value c = c.len.ensures.len ∙ sym (seen_long c.self.inside.map) ∙ ap (λ (l : List RecordData). length l) c.self.view_is

pub returns-clause-form : goal.returns-clause-form
returns-clause-form c = subst IsHeld c.self.view_is (held_of c.self.inside.map c.self.invariant)
