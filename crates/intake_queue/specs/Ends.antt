-- An intake, its senders and its taker, as contracts see them.
use Rattle.std.specs.Prelude.{◌≡◌, ℕ, ◌+◌, ◌<◌, List, [], length, Some, slice_get}
use Rattle.std.specs.List.{Contains}
use Rattle.atomic_table.specs.Seated.{TableId}
use Rattle.named_log.specs.Places.{PlacedFact}
use Rattle.intake_queue.specs.Parcel.{ParcelData}

-- an intake: which one it is, and how many parcels it has room for
pub record IntakeData : Type 0 where
  pub id : TableId
  pub capacity : ℕ

-- a sender: of which intake, its number from 1, how many senders the intake has, its offers that were accepted, in order,
-- and how many parcels it has heard to be taken
pub record SenderData : Type 0 where
  pub intake : TableId
  pub number : ℕ
  pub senders : ℕ
  pub accepted : List ParcelData
  pub heard : ℕ

-- the taker: of which intake, how many senders that has, what it took, in order, and what it has heard to be accepted:
-- senders, each with a count
pub record TakerData : Type 0 where
  pub intake : TableId
  pub senders : ℕ
  pub taken : List ParcelData
  pub heard : List (ℕ × ℕ)

-- the parcel that a sender makes next of a fact
abbrev pub next_parcel : SenderData → PlacedFact → ParcelData
next_parcel sender fact = record { sender = sender.number; number = length sender.accepted + 1; fact = fact }

abbrev pub new_sender : TableId → ℕ → ℕ → SenderData
new_sender intake senders number = record { intake = intake; number = number; senders = senders; accepted = []; heard = 0 }

-- so many new senders of the intake, with the numbers 1, 2, 3 and so on, each of which knows that it has so many senders
abbrev pub AreNewSenders : TableId → ℕ → ℕ → List SenderData → Type 0
AreNewSenders intake senders count made =
    (length made ≡ count) × ((before : ℕ) → before < count → slice_get made before ≡ Some (new_sender intake senders (before + 1)))

-- they are senders of the intake
abbrev pub AreSendersOf : TableId → List SenderData → Type 0
AreSendersOf intake senders = (s : SenderData) → Contains senders s → s.intake ≡ intake
