use Rattle.std.proofs.Common.{◌≡◌, drop}
use Rattle.redo_core.specs.Writing.{after_records}
use Rattle.segment_core.proofs.fold_plan.apply_owned.Given as goal

-- what is left to apply gives the same page
abbrev pub invariant-loop-redo : goal.invariant-loop-redo
invariant-loop-redo l = after_records l.page (drop l.redo-index l.records) ≡ after_records l.fn.page l.records
