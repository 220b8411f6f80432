-- Books of messages: what follows from their points.
use Rattle.std.specs.Prelude.{ℕ, Bool, nat_lt}
use Rattle.redo_core.specs.Book.{BookData, roster_of}
use Rattle.redo_core.specs.Roster.{least}

-- the minimum read point: the least reader's point
abbrev pub book_min : BookData → ℕ
book_min b = least b.points

-- the roster has several readers
abbrev pub has_many : BookData → Bool
has_many b = nat_lt 1 (roster_of b)
