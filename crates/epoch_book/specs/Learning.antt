-- What a book is after it has learnt a truncation or an advance.
pub use Rattle.redo_core.specs.Learning.{LearnsCut, Counts, Waits, LearnsAdvance, KnowsAdvance}
