-- The complete epoch of some truncations.
use Rattle.std.proofs.Common.{◌≡◌, ℕ, List, arith}
use Rattle.redo_core.specs.Data.{CutData}
use Rattle.redo_core.specs.CompleteEpoch.{HasCutsTo, IsCompleteEpoch}
use Rattle.redo_core.proofs.Numbers.{greatest_unique, at_greatest}

-- epochs up to the complete one have their truncations
pub has_cuts : (cs : List CutData) (k : ℕ) → IsCompleteEpoch cs k → HasCutsTo cs k
has_cuts cs k c = at_greatest (HasCutsTo cs) (λ e l m. absurd (omega arith)) k c

-- there is one complete epoch
pub one_complete_epoch : (cs : List CutData) (m n : ℕ) → IsCompleteEpoch cs m → IsCompleteEpoch cs n → m ≡ n
one_complete_epoch cs m n g h = greatest_unique (HasCutsTo cs) (HasCutsTo cs) (λ e. (λ u. u, λ u. u)) m n g h
