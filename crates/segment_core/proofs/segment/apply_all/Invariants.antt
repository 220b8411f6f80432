use Rattle.std.proofs.Common.{◌≡◌, map, drop}
use Rattle.redo_core.specs.Writing.{after_records}
use Rattle.segment_core.proofs.segment.apply_all.Given as goal

-- what is left to apply gives the same page
abbrev pub invariant-loop-redo : goal.invariant-loop-redo
invariant-loop-redo l = after_records l.page (map (λ x. x.now) (drop l.redo-index l.records)) ≡ after_records l.fn.page (map (λ x. x.now) l.records)
