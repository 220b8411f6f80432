-- The greatest of some numbers, and lists in rising order.
use Rattle.std.specs.Prelude.{◌≡◌, ℕ, ◌<◌, ◌≤◌, ◌⊎◌, ◌↔◌, List, [], ◌∷◌}
use Rattle.std.specs.List.{Contains, AllByRecursion}
use Rattle.redo_core.specs.Data.{RecordData, CutData, AdvanceData}

-- n is the greatest number with P, or 0 where there is none
abbrev pub IsGreatest : (ℕ → Type 0) → ℕ → Type 0
IsGreatest P n = ((n ≡ 0) ⊎ P n) × ((m : ℕ) → P m → m ≤ n)

-- each element is before all later ones
abbrev pub IsRising : {X : Type 0} → (X → X → Type 0) → List X → Type 0
IsRising Before [] = Unit {0}
IsRising Before (x ∷ xs) = AllByRecursion (Before x) xs × IsRising Before xs

-- xs lists exactly the elements with P, in rising order
pub record Lists {X : Type 0} (Before : X → X → Type 0) (P : X → Type 0) (xs : List X) : Type 0 where
  pub rising : IsRising Before xs
  pub members : (x : X) → Contains xs x ↔ P x

-- x is the first of the elements with P
pub record IsFirst {X : Type 0} (Before : X → X → Type 0) (P : X → Type 0) (x : X) : Type 0 where
  pub has : P x
  pub least : (y : X) → P y → (y ≡ x) ⊎ Before x y

-- the pair (a, b) is before (c, d)
abbrev pub PairBefore : ℕ → ℕ → ℕ → ℕ → Type 0
PairBefore a b c d = (a < c) ⊎ ((a ≡ c) × (b < d))

-- truncations by epoch
abbrev pub CutBefore : CutData → CutData → Type 0
CutBefore c d = c.epoch < d.epoch

-- advances by epoch, then reader, then point
abbrev pub AdvanceBefore : AdvanceData → AdvanceData → Type 0
AdvanceBefore a b = (a.epoch < b.epoch) ⊎ ((a.epoch ≡ b.epoch) × PairBefore a.reader a.point b.reader b.point)

-- records by key: epoch, then LSN
abbrev pub RecordBefore : RecordData → RecordData → Type 0
RecordBefore r s = PairBefore r.epoch r.number s.epoch s.number

-- records by LSN alone, the order of a page's chain
abbrev pub BeforeByNumber : RecordData → RecordData → Type 0
BeforeByNumber r s = r.number < s.number
