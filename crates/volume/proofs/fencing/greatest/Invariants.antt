use Rattle.std.proofs.Common.{take}
use Rattle.volume.specs.Fencing.{IsGreatestPair}
use Rattle.volume.proofs.fencing.greatest.Given as goal

-- the best so far is the greatest of those that are passed
abbrev pub invariant-loop-pair : goal.invariant-loop-pair
invariant-loop-pair l = IsGreatestPair (take l.pair-index l.pairs) l.best
