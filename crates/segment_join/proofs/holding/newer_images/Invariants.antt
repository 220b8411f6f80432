use Rattle.std.proofs.Common.{◌<◌}
use Rattle.segment_theorems.specs.State.{version_of}
use Rattle.segment_join.proofs.Sparing.{Picks}
use Rattle.segment_join.proofs.holding.newer_images.Given as goal

-- the newer ones so far
abbrev pub invariant-loop-image : goal.invariant-loop-image
invariant-loop-image l = Picks (λ i. version_of l.segment.store i.page < i.version) l.image-items l.image-index l.newer.items
