-- What a search among a book's truncations and waiting advances implies for membership.
use Rattle.std.proofs.Common.{ℕ, ◌<◌, ◌≤◌, ◌↔◌, List, length, Result, IfOk, IfErr, IsTrue, rules}
use Rattle.std.specs.List.{Contains}
use Rattle.std.specs.List.Sorted.{IsPartitionPoint}
use Rattle.std.specs.Result.{is_ok}
use Rattle.redo_core.specs.Data.{AdvanceData}
use Rattle.redo_core.specs.Order.{AdvanceBefore}
use Rattle.epoch_book.specs.Book.{BookData}
use Rattle.epoch_book.specs.Learning.{KnowsAdvance}

-- whether a search finds an advance
pub found_wait : (ws : List AdvanceData) (a : AdvanceData) (r : Result ℕ ℕ) → IfOk r (λ i. Contains ws a)
    → IfErr r (λ i. (i ≤ length ws) × IsPartitionPoint (λ w. AdvanceBefore w a) (λ w. AdvanceBefore a w) ws i) → IsTrue (is_ok r) ↔ Contains ws a
found_wait ws a r ok err = search rules

-- an advance of an epoch above the complete one is known where it waits
pub known_later : (b : BookData) (a : AdvanceData) → b.complete < a.epoch → KnowsAdvance b a ↔ Contains b.waits a
known_later b a later = search rules
