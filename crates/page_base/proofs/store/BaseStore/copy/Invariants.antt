use Rattle.std.proofs.Common.{◌≡◌, take}
use Rattle.page_base.proofs.store.BaseStore.copy.Given as goal

-- the copies so far
abbrev pub invariant-loop-image : goal.invariant-loop-image
invariant-loop-image l = l.images.items ≡ take l.image-index l.image-items
