use Rattle.std.proofs.Common.{◌+◌, ◌≤◌, length, drop, vec_len, vec_capacity}
use Rattle.page_base.specs.Stored.{store_of, IsBase}
use Rattle.page_base.specs.Merging.{LeadsOn}
use Rattle.page_base.proofs.merging.raise_all.Given as goal

-- the rest of the images is still to be raised, and has room
abbrev pub invariant-loop-image : goal.invariant-loop-image
invariant-loop-image l =
    (goal.iterator-loop-image).can_next l.image-iterator ×
    (goal.iterator-loop-image).is_finite l.image-iterator ×
    LeadsOn (store_of l.fn.images.items l.floor) l.fn.given.items (store_of l.images.items l.floor) (drop (length l.yielded) l.fn.given.items) ×
    IsBase l.images.items l.floor ×
    (vec_len l.images + vec_len l.fn.given ≤ vec_capacity l.images + length l.yielded)
