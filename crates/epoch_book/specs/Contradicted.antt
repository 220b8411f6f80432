-- When the truncations of a book and its points contradict each other.
use Rattle.std.specs.Prelude.{◌<◌}
use Rattle.std.specs.List.{Contains}
use Rattle.redo_core.specs.Data.{CutData}
use Rattle.redo_core.specs.Past.{OthersPast}
use Rattle.redo_core.specs.Book.{BookData}

-- Each reader is known to be past a truncation of an epoch above the complete one. No book that learnt facts one by one is so.
abbrev pub IsContradicted : BookData → Type 0
IsContradicted b = (c : CutData) × Contains b.cuts c × (b.complete < c.epoch) × OthersPast b.points b.waits c 0
