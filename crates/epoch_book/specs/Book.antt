-- What a book stores, as contracts see it, and the invariant of every book.
pub use Rattle.redo_core.specs.Book.{BookData, book_of, roster_of, IsBook}
