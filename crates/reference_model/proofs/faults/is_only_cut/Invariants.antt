use Rattle.std.proofs.Common.{take}
use Rattle.std.specs.List.{All}
use Rattle.redo_core.specs.declared.facts.Fact.TheVariants.{Cut}
use Rattle.reference_model.proofs.Scanned.{IsSameOfKey}
use Rattle.reference_model.proofs.faults.is_only_cut.Given as goal

abbrev pub invariant-loop-fact : goal.invariant-loop-fact
invariant-loop-fact l = All (IsSameOfKey (Cut l.cut)) (take l.fact-index l.earlier)
