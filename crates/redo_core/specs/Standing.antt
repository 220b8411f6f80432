-- The standing (visibility) of a record in the view of an epoch k: it waits, is alive or is dead.
use Rattle.std.specs.Prelude.{◌≡◌, ℕ, ◌<◌, ◌≤◌, List}
use Rattle.std.specs.List.{Contains}
use Rattle.redo_core.specs.Data.{CutData}

-- A record waits where its epoch is above k.
abbrev pub IsWaiting : ℕ → ℕ → Type 0
IsWaiting k epoch = k < epoch

-- Otherwise it is alive where its LSN is above the hi of its own epoch's truncation and at most the lo of each later one up to k.
pub record IsAlive (cs : List CutData) (k epoch number : ℕ) : Type 0 where
  pub known : epoch ≤ k
  pub begun : (c : CutData) → Contains cs c → c.epoch ≡ epoch → c.hi < number
  pub spared : (c : CutData) → Contains cs c → epoch < c.epoch → c.epoch ≤ k → number ≤ c.lo

-- Otherwise it is dead.
abbrev pub IsDead : List CutData → ℕ → ℕ → ℕ → Type 0
IsDead cs k epoch number = (epoch ≤ k) × (IsAlive cs k epoch number → ⊥)

-- a truncation spares an LSN of an epoch in the view of epoch k
abbrev pub SparesIn : ℕ → ℕ → ℕ → CutData → Type 0
SparesIn k epoch number c = (c.epoch ≡ epoch → c.hi < number) × (epoch < c.epoch → c.epoch ≤ k → number ≤ c.lo)
