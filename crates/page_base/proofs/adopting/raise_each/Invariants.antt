use Rattle.std.proofs.Common.{◌+◌, ◌≤◌, length, drop, vec_len, vec_capacity}
use Rattle.page_base.specs.Stored.{store_of, IsBase}
use Rattle.page_base.specs.Adopting.{ComesTo, LeadsTo}
use Rattle.page_base.proofs.adopting.raise_each.Given as goal

-- the rest of the pages is still to be raised, and has room
abbrev pub invariant-loop-page : goal.invariant-loop-page
invariant-loop-page l =
    (goal.iterator-loop-page).can_next l.page-iterator ×
    (goal.iterator-loop-page).is_finite l.page-iterator ×
    ComesTo l.base (store_of l.fn.images.items l.floor) l.fn.pages.items (store_of l.images.items l.floor) (drop (length l.yielded) l.fn.pages.items) ×
    LeadsTo l.base (store_of l.fn.images.items l.floor) l.fn.pages.items (store_of l.images.items l.floor) (drop (length l.yielded) l.fn.pages.items) ×
    IsBase l.images.items l.floor ×
    (vec_len l.images + vec_len l.fn.pages ≤ vec_capacity l.images + length l.yielded)
