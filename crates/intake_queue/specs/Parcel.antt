-- Parcels, and those of one sender among them.
use Rattle.std.specs.Prelude.{◌≡◌, ℕ, ◌+◌, ◌≤◌, ◌==◌, List, Some, map, slice_get, filter}
use Rattle.std.specs.List.{Contains}
use Rattle.named_log.specs.Places.{PlacedFact}

-- a fact, its sender, and its number among that sender's parcels, from 1
pub record ParcelData : Type 0 where
  pub sender : ℕ
  pub number : ℕ
  pub fact : PlacedFact

-- the parcels of one sender, in order
abbrev pub sent_by : ℕ → List ParcelData → List ParcelData
sent_by sender parcels = filter (λ p. p.sender == sender) parcels

-- the facts of these parcels
abbrev pub parcel_facts : List ParcelData → List PlacedFact
parcel_facts parcels = map (λ p. p.fact) parcels

-- they are numbered 1, 2, 3 and so on
abbrev pub AreNumbered : List ParcelData → Type 0
AreNumbered parcels = (before : ℕ) (p : ParcelData) → slice_get parcels before ≡ Some p → p.number ≡ before + 1

-- the number of one of so many senders
abbrev pub IsSenderOf : ℕ → ℕ → Type 0
IsSenderOf senders number = (1 ≤ number) × (number ≤ senders)

-- each comes from one of so many senders, and those of each sender are numbered 1, 2, 3 and so on
pub record AreInTurn (senders : ℕ) (parcels : List ParcelData) : Type 0 where
  pub among : (p : ParcelData) → Contains parcels p → IsSenderOf senders p.sender
  pub numbered : (sender : ℕ) → AreNumbered (sent_by sender parcels)
