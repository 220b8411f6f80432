use Rattle.std.proofs.Common.{ℕ}
use Rattle.segment_theorems.specs.HasMeaning.{HasAnchor}
use Rattle.volume.proofs.AliveAbove.{GathersTo}
use Rattle.volume.proofs.resuming.alive_above_anchor.Given as goal

-- the entries of the keys that are passed
abbrev pub invariant-loop-key : goal.invariant-loop-key
invariant-loop-key l = (anchor : ℕ) → HasAnchor l.union anchor → GathersTo l.union anchor l.key-items l.key-index l.alive.items
