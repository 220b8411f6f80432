-- What every segment keeps, whatever facts reached it.
use Rattle.std.specs.Prelude.{◌≤◌}
use Rattle.epoch_book.specs.Book.{IsBook}
use Rattle.hot_log.specs.Held.{IsHeld}
use Rattle.page_base.specs.Stored.{IsStored}
use Rattle.segment_theorems.specs.State.{State, min_of}

-- the book has its form; the stored records rise by key; the images rise by page; the base point is not above the minimum
pub record IsSegment (s : State) : Type 0 where
  pub book : IsBook s.book
  pub held : IsHeld s.held
  pub store : IsStored s.store
  pub base : s.base ≤ min_of s
