-- The truncations of a meaning that a state exports.
use Rattle.std.proofs.Common.{◌≡◌, arith}
use Rattle.std.specs.List.{Contains}
use Rattle.redo_core.specs.Order.{IsRising, CutBefore}
use Rattle.redo_core.specs.Meaning.{Meaning}
use Rattle.redo_core.proofs.Members.{lists_unique}
use Rattle.segment_theorems.specs.State.{State}
use Rattle.segment_theorems.specs.HasMeaning.{HasMeaning}

-- a meaning's truncations are those that the state stores
pub same_cuts : (s : State) (m : Meaning) → IsRising CutBefore s.book.cuts → HasMeaning s m → m.cuts ≡ s.book.cuts
same_cuts s m rising has =
    lists_unique CutBefore (λ c d a b. omega (arith, a, b)) (Contains s.book.cuts) (Contains s.book.cuts)
    (λ c. (λ u. u, λ u. u)) m.cuts s.book.cuts has.same_cuts
    (record { rising = rising; members = λ c. (λ u. u, λ u. u) })
