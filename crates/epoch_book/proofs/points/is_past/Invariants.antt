use Rattle.std.proofs.Common.{◌≡◌, ◌<◌, take}
use Rattle.std.specs.List.{All}
use Rattle.epoch_book.proofs.points.is_past.Given as goal

-- no advance so far is past the truncation
abbrev pub invariant-loop-wait : goal.invariant-loop-wait
invariant-loop-wait l = All (λ a. (a.reader ≡ l.reader) × (a.epoch < l.cut.epoch) × (l.cut.lo < a.point) → ⊥) (take l.wait-index l.waits)
