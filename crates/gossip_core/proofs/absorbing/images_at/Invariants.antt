use Rattle.std.proofs.Common.{◌≡◌, map, take}
use Rattle.gossip_core.specs.Absorbing.{based_image}
use Rattle.gossip_core.proofs.absorbing.images_at.Given as goal

-- the images so far
abbrev pub invariant-loop-image : goal.invariant-loop-image
invariant-loop-image l = l.images.items ≡ map (based_image l.base) (take l.image-index l.pages)
