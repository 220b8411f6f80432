-- Runs of entries, seen as one list of entries.
use Rattle.std.specs.Prelude.{◌≡◌, ℕ, ◌≤◌, List, [], ◌∷◌, ◌++◌, length}
use Rattle.std.specs.Global.{Vec}
use Rattle.std.specs.Map.{keys_of}
use Rattle.std.specs.List.Sorted.{IsStrictlySortedBy}
use Rattle.std.specs.declared.cmp.Ordering.{Ordering}
use Rattle.sorted_runs.specs.declared.edits.TheConstants.{FULL}

-- the entries of the runs, one run after another
abbrev pub entries : {K V : Type 0} → List (Vec (K × V)) → List (K × V)
entries [] = []
entries (v ∷ vs) = v.items ++ entries vs

-- there is a first entry, and this is its key
abbrev pub StartsWith : {K V : Type 0} → K → List (K × V) → Type 0
StartsWith f [] = ⊥
StartsWith f (e ∷ es) = e.0 ≡ f

-- each run has an entry, and the keys are those of their first entries
abbrev pub Headed : {K V : Type 0} → List K → List (Vec (K × V)) → Type 0
Headed [] [] = Unit {0}
Headed [] (v ∷ vs) = ⊥
Headed (f ∷ fs) [] = ⊥
Headed (f ∷ fs) (v ∷ vs) = StartsWith f v.items × Headed fs vs

-- no run is longer than this
abbrev pub AllUpTo : {K V : Type 0} → ℕ → List (Vec (K × V)) → Type 0
AllUpTo most [] = Unit {0}
AllUpTo most (v ∷ vs) = (length v.items ≤ most) × AllUpTo most vs

-- runs with their first keys and the number of their entries
pub record IsRuns {K V : Type 0} (cmp : K → K → Ordering) (firsts : List K) (runs : List (Vec (K × V))) (len : ℕ) : Type 0 where
  pub headed : Headed firsts runs
  pub rising : IsStrictlySortedBy cmp (keys_of (entries runs))
  pub bounded : AllUpTo FULL runs
  pub counted : len ≡ length (entries runs)
