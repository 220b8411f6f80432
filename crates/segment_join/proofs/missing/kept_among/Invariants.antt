use Rattle.std.proofs.Common.{take, map}
use Rattle.std.specs.List.{Contains}
use Rattle.redo_core.specs.Order.{Lists, RecordBefore}
use Rattle.segment_theorems.specs.HasMeaning.{IsKeptBy}
use Rattle.segment_join.proofs.missing.kept_among.Given as goal

-- those so far that are kept
abbrev pub invariant-loop-redo : goal.invariant-loop-redo
invariant-loop-redo l =
    Lists RecordBefore (λ r. Contains (take l.redo-index (map (λ x. x.now) l.records)) r × IsKeptBy l.segment l.anchor r) (map (λ x. x.now) l.kept.items)
