-- The minimum read point of a book is at most the greatest LSN.
use Rattle.std.proofs.Common.{ℕ, ◌≤◌, List, [], ◌∷◌, length, refl, arith}
use Rattle.std.specs.List.{AllByRecursion}
use Rattle.std.proofs.lemmas.List.Elements.{recursion_from_All}
use Rattle.redo_core.specs.Book.{BookData, IsBook}
use Rattle.redo_core.specs.Shape.{max_number}
use Rattle.redo_core.specs.Roster.{least}
use Rattle.redo_core.proofs.Points.{least_le}
use Rattle.messages.specs.Books.{book_min}

small_least : (ps : List ℕ) → 1 ≤ length ps → AllByRecursion (λ p. p ≤ max_number) ps → least ps ≤ max_number
small_least [] one h = absurd (omega (arith, one))
small_least (p ∷ ps) one h =
    let low : least (p ∷ ps) ≤ p = least_le (length (p ∷ ps)) (p ∷ ps) 1 refl (omega arith, one) in
    let high = h.0 in
    omega arith

pub min_small : (b : BookData) → IsBook b → book_min b ≤ max_number
min_small b book = small_least b.points book.roster.0 (recursion_from_All (λ p. p ≤ max_number) b.points book.points_shaped)
