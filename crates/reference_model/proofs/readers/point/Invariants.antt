use Rattle.std.proofs.Common.{take, ◌≡◌, ◌⊎◌}
use Rattle.std.specs.List.{All}
use Rattle.redo_core.specs.Sets.{advances}
use Rattle.redo_core.specs.Points.{HasAdvance}
use Rattle.reference_model.proofs.Scanned.{IsUpTo}
use Rattle.reference_model.proofs.readers.point.Given as goal

abbrev pub invariant-loop-fact : goal.invariant-loop-fact
invariant-loop-fact l = record {
  there : (l.greatest ≡ 0) ⊎ HasAdvance (advances l.facts) l.epoch l.reader l.greatest;
  top : All (IsUpTo l.epoch l.reader l.greatest) (take l.fact-index l.facts);
}
