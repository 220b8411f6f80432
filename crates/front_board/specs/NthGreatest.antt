-- The n-th greatest of some numbers.
use Rattle.std.specs.Prelude.{ℕ, ◌<◌, ◌≤◌, List, nat_lt, nat_le}
use Rattle.std.specs.List.{Contains, count_by}

-- how many are above x
abbrev pub count_above : ℕ → List ℕ → ℕ
count_above x xs = count_by (nat_lt x) xs

-- how many are at or above x
abbrev pub count_reached : ℕ → List ℕ → ℕ
count_reached x xs = count_by (nat_le x) xs

-- x is the n-th greatest of xs: it is one of them, fewer than n are above it, and at least n have reached it
pub record IsNthGreatest (n : ℕ) (xs : List ℕ) (x : ℕ) : Type 0 where
  pub among : Contains xs x
  pub above : count_above x xs < n
  pub reached : n ≤ count_reached x xs
