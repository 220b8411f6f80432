use Rattle.std.proofs.Common.{ℕ}
use Rattle.redo_core.specs.Roster.{IsReader}
use Rattle.redo_core.specs.Past.{IsKnownPast}
use Rattle.epoch_book.proofs.parts.all_past.Given as goal

-- the readers so far are past the truncation
abbrev pub invariant-loop-place : goal.invariant-loop-place
invariant-loop-place l = (reader : ℕ) → IsReader l.place reader → IsKnownPast l.points l.waits l.cut reader
