-- The position of a key among the first keys of runs, and within a run.
use Rattle.std.specs.Prelude.{◌≡◌, ℕ, suc, ◌<◌, ◌≤◌, ◌⊎◌, Bool, true, false, cond, List, length, take, drop, slice_index_or}
use Rattle.std.specs.List.{AllByRecursion}
use Rattle.std.specs.Ordering.{is_le, is_lt}
use Rattle.std.specs.declared.cmp.Ordering.{Ordering}
use Rattle.std.specs.declared.cmp.Ordering.TheVariants.{Less, Equal, Greater}

-- the key is above each of these
abbrev pub Passes : {K V : Type 0} → (K → K → Ordering) → K → List (K × V) → Type 0
Passes cmp key es = AllByRecursion (λ e. cmp key e.0 ≡ Greater) es

-- the key is below each of these
abbrev pub Precedes : {K V : Type 0} → (K → K → Ordering) → K → List (K × V) → Type 0
Precedes cmp key es = AllByRecursion (λ e. cmp key e.0 ≡ Less) es

-- the first keys after r are above the key, and that at r is not, unless r is 0
pub record IsRunFor {K : Type 0} (cmp : K → K → Ordering) (firsts : List K) (key : K) (r : ℕ) : Type 0 where
  pub within : r < length firsts
  pub reached : (r ≡ 0) ⊎ ((d : K) → cmp key (slice_index_or firsts r d) ≡ Less → ⊥)
  pub passed : AllByRecursion (λ f. cmp key f ≡ Less) (drop (suc r) firsts)

-- the entry at i has the key
pub record IsFoundAt {K V : Type 0} (cmp : K → K → Ordering) (es : List (K × V)) (key : K) (i : ℕ) : Type 0 where
  pub within : i < length es
  pub before : Passes cmp key (take i es)
  pub here : (d : K × V) → cmp key (slice_index_or es i d).0 ≡ Equal
  pub after : Precedes cmp key (drop (suc i) es)

-- no entry has the key, whose position is i
pub record IsGap {K V : Type 0} (cmp : K → K → Ordering) (es : List (K × V)) (key : K) (i : ℕ) : Type 0 where
  pub within : i ≤ length es
  pub before : Passes cmp key (take i es)
  pub after : Precedes cmp key (drop i es)

-- whether a key that compares so is after a position: at it or above, or only above where the position is past it
abbrev pub is_after : Bool → Ordering → Bool
is_after past o = cond past (is_lt o) (is_le o)

-- the test is false of each key before the position n, and true of each after it
pub record IsCut {K V : Type 0} (test : K → Bool) (es : List (K × V)) (n : ℕ) : Type 0 where
  pub before : AllByRecursion (λ e. test e.0 ≡ false) (take n es)
  pub behind : AllByRecursion (λ e. test e.0 ≡ true) (drop n es)
