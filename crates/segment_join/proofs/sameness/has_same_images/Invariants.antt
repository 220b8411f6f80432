use Rattle.std.proofs.Common.{take}
use Rattle.std.specs.List.{All}
use Rattle.segment_join.specs.Sameness.{ShowOne, IsUnwritten}
use Rattle.segment_join.proofs.sameness.has_same_images.Given as goal

-- the pages so far are the same
abbrev pub invariant-loop-image : goal.invariant-loop-image
invariant-loop-image l =
    All (λ i. IsUnwritten l.one l.other i.page → ShowOne l.one l.point l.other l.other_point i.page) (take l.image-index l.images)
