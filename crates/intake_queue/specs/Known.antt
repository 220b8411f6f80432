-- What the holder of a pass knows.
use Rattle.std.specs.Prelude.{◌≡◌, ℕ, Bool, true, false, List, []}
use Rattle.intake_queue.specs.Parcel.{ParcelData}

-- The taker knows what it took, how many senders there are, how many of them are made, and of those that were handed in all
-- that was accepted. A sender knows its number, how many senders there are, and what was accepted of it. Each of them, and a
-- note, may know of counts: of accepted parcels by sender, and of taken ones.
pub record KnownData : Type 0 where
  pub takes : Bool
  pub taken : List ParcelData
  pub made : ℕ
  pub ended : List (ℕ × List ParcelData)
  pub sends : Bool
  pub number : ℕ
  pub accepted : List ParcelData
  pub senders : ℕ
  pub accepted_counts : List (ℕ × ℕ)
  pub taken_count : ℕ

abbrev pub nobody : KnownData
nobody = record {
  takes = false;
  taken = [];
  made = 0;
  ended = [];
  sends = false;
  number = 0;
  accepted = [];
  senders = 0;
  accepted_counts = [];
  taken_count = 0;
}

abbrev pub taker : List ParcelData → ℕ → ℕ → List (ℕ × List ParcelData) → List (ℕ × ℕ) → KnownData
taker taken senders made ended heard =
    record nobody { takes = true; taken = taken; made = made; ended = ended; senders = senders; accepted_counts = heard }

abbrev pub sender : ℕ → ℕ → List ParcelData → ℕ → KnownData
sender number senders accepted heard = record nobody { sends = true; number = number; accepted = accepted; senders = senders; taken_count = heard }

-- a note of counts, which neither sends nor takes
abbrev pub note : List (ℕ × ℕ) → ℕ → KnownData
note accepted taken = record nobody { accepted_counts = accepted; taken_count = taken }

abbrev pub IsTaker : KnownData → Type 0
IsTaker v = v ≡ taker v.taken v.senders v.made v.ended v.accepted_counts

abbrev pub IsSender : KnownData → Type 0
IsSender v = v ≡ sender v.number v.senders v.accepted v.taken_count

abbrev pub IsNote : KnownData → Type 0
IsNote v = v ≡ note v.accepted_counts v.taken_count
