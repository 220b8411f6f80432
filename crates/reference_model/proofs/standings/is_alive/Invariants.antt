use Rattle.std.proofs.Common.{take}
use Rattle.std.specs.List.{All}
use Rattle.reference_model.proofs.Scanned.{IsSpared}
use Rattle.reference_model.proofs.standings.is_alive.Given as goal

abbrev pub invariant-loop-fact : goal.invariant-loop-fact
invariant-loop-fact l = All (IsSpared l.view l.epoch l.number) (take l.fact-index l.facts)
