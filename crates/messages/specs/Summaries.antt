-- The invariant of summaries.
use Rattle.std.specs.Prelude.{ℕ, ◌≤◌, List}
use Rattle.std.specs.List.{AllByRecursion}
use Rattle.redo_core.specs.Book.{BookData, IsBook}
use Rattle.redo_core.specs.Order.{IsRising}
use Rattle.redo_core.specs.declared.keys.Key.{Key}
use Rattle.messages.specs.Books.{book_min}
use Rattle.redo_core.specs.Keys.{IsKey, KeyBefore}

-- the book, the anchor and the keys of the records that a segment keeps
pub record SummaryData : Type 0 where
  pub book : BookData
  pub anchor : ℕ
  pub keys : List Key

abbrev pub summary_of : BookData → ℕ → List Key → SummaryData
summary_of book anchor keys = record { book = book; anchor = anchor; keys = keys }

-- an anchor up to the minimum read point, and keys in order
pub record IsSummary (s : SummaryData) : Type 0 where
  pub book : IsBook s.book
  pub anchor : s.anchor ≤ book_min s.book
  pub keys : IsRising KeyBefore s.keys
  pub each_key : AllByRecursion IsKey s.keys
