use Rattle.std.proofs.Common.{take}
use Rattle.hot_log.specs.Held.{IsHeld}
use Rattle.hot_log.specs.Removing.{IsFolded}
use Rattle.segment_core.proofs.Gone.{GoneBy}
use Rattle.segment_theorems.specs.State.{StoredImage}
use Rattle.segment_core.proofs.shedding.remove_in_images.Given as goal

-- what the images so far have is gone
abbrev pub invariant-loop-image : goal.invariant-loop-image
invariant-loop-image l =
    IsHeld l.hot × GoneBy (λ (i : StoredImage) r. IsFolded l.book i.page i.version l.point r) (take l.image-index l.images) l.fn.hot l.hot
