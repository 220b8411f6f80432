use Rattle.std.proofs.Common.{ℕ, ◌≢◌}
use Rattle.redo_core.specs.Roster.{IsReader}
use Rattle.redo_core.specs.Past.{IsKnownPast}
use Rattle.epoch_book.proofs.points.are_past.Given as goal

-- the readers so far are past the truncation
abbrev pub invariant-loop-i : goal.invariant-loop-i
invariant-loop-i l = (reader : ℕ) → IsReader l.i reader → reader ≢ l.but → IsKnownPast l.points l.waits l.cut reader
