-- Predicates of a book and of stored records, as predicates of a view that borrows both.
use Rattle.std.specs.Prelude.{List}
use Rattle.redo_core.specs.Data.{RecordData}
use Rattle.epoch_book.specs.Book.{BookData}
use Rattle.hot_log.specs.declared.view.BookView.{BookView}

-- `seen_in view IsLinkedFrom from n` is `IsLinkedFrom` of the view's book and stored records, from `from`, to `n`
abbrev pub seen_in : {A : Type 1} → BookView → (BookData → List RecordData → A) → A
seen_in view P = P view.book.now view.held.now
