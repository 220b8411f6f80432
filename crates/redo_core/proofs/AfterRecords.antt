-- Records written to a page, one list after another.
use Rattle.std.proofs.Common.{◌≡◌, ℕ, List, [], ◌∷◌, ◌++◌, refl}
use Rattle.redo_core.specs.Data.{RecordData}
use Rattle.redo_core.specs.Writing.{write, after_records}

pub after_append : (page : List ℕ) (xs ys : List RecordData) → after_records page (xs ++ ys) ≡ after_records (after_records page xs) ys
after_append page [] ys = refl
after_append page (x ∷ xs) ys = after_append (write page x) xs ys
