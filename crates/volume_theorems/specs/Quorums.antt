-- Sets of nodes, and quorums of them.
use Rattle.std.specs.Prelude.{ℕ, zero, suc, ◌+◌, ◌≤◌, Bool, true, false, IsTrue}

abbrev pub one_if : Bool → ℕ
one_if true = 1
one_if false = 0

-- how many of the nodes below the number are in the set
abbrev pub size_below : ℕ → (ℕ → Bool) → ℕ
size_below zero set = 0
size_below (suc n) set = one_if (set n) + size_below n set

-- at least `quorum` of the nodes below `roster` have it
abbrev pub OfQuorum : ℕ → ℕ → (ℕ → Type 0) → Type 0
OfQuorum roster quorum Has = (set : ℕ → Bool) × (quorum ≤ size_below roster set) × ((i : ℕ) → IsTrue (set i) → Has i)
