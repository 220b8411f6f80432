-- Which facts a book knows.
pub use Rattle.redo_core.specs.Knowing.{KnowsFacts, KnowsMore}
