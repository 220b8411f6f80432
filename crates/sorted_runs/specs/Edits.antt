-- The effect of edits of runs on their entries.
use Rattle.std.specs.Prelude.{◌≡◌, ℕ, suc, ◌+◌, ◌<◌, List, ◌++◌, length, take, drop, slice_index_or}
use Rattle.std.specs.Global.{Vec}
use Rattle.std.specs.List.{insert, remove, remove_range}
use Rattle.sorted_runs.specs.Rows.{entries, Headed, AllUpTo}
use Rattle.sorted_runs.specs.declared.edits.TheConstants.{FULL}

-- runs with their first keys, and no run too long
pub record IsShaped {K V : Type 0} (firsts : List K) (runs : List (Vec (K × V))) : Type 0 where
  pub headed : Headed firsts runs
  pub bounded : AllUpTo FULL runs

-- how many entries are before the position i of the run r
abbrev pub offset : {K V : Type 0} → List (Vec (K × V)) → ℕ → ℕ → ℕ
offset runs r i = length (entries (take r runs)) + i

-- the entry e has been inserted at the position i of the run r
abbrev pub GainsAt : {K V : Type 0} → List (Vec (K × V)) → ℕ → ℕ → K × V → List (Vec (K × V)) → Type 0
GainsAt old r i e new = entries new ≡ insert (entries old) (offset old r i) e

-- the run r keeps n entries and its position
pub record Splits {K V : Type 0} (old : List (Vec (K × V))) (r n : ℕ) (new : List (Vec (K × V))) : Type 0 where
  pub within : r < length new
  pub place : offset new r 0 ≡ offset old r 0
  pub long : (d : Vec (K × V)) → let run = slice_index_or new r d in length run.items ≡ n

-- the entry at the position i of the run r has been removed
abbrev pub LosesAt : {K V : Type 0} → List (Vec (K × V)) → ℕ → ℕ → Vec (K × V) → List (Vec (K × V)) → Type 0
LosesAt old r i d new = let run = slice_index_or old r d in entries new ≡ entries (take r old) ++ (remove run.items i ++ entries (drop (suc r) old))

-- the entries from the position p among all entries up to the position q have been removed
abbrev pub LosesBetween : {K V : Type 0} → List (Vec (K × V)) → ℕ → ℕ → List (Vec (K × V)) → Type 0
LosesBetween old p q new = entries new ≡ remove_range (entries old) p q
