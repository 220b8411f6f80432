use Rattle.std.proofs.Common.{◌≡◌, drop}
use Rattle.redo_wire.specs.BookReading.{complete, complete_from}
use Rattle.redo_wire.proofs.books.complete_of.Given as goal

-- what is left gives the same answer
abbrev pub invariant-loop-cut : goal.invariant-loop-cut
invariant-loop-cut l = complete_from l.k (drop l.cut-index l.cuts) ≡ complete l.fn.cuts
