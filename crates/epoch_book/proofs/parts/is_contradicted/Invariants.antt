use Rattle.std.proofs.Common.{◌<◌, take}
use Rattle.std.specs.List.{All}
use Rattle.redo_core.specs.Past.{OthersPast}
use Rattle.epoch_book.proofs.parts.is_contradicted.Given as goal

-- no truncation so far contradicts the points
abbrev pub invariant-loop-cut : goal.invariant-loop-cut
invariant-loop-cut l = All (λ c. (l.complete < c.epoch) × OthersPast l.points l.waits c 0 → ⊥) (take l.cut-index l.cuts)
