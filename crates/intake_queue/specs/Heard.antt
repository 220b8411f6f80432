-- Notes of what was accepted and what was taken, and what the ends of an intake conclude from them.
use Rattle.std.specs.Prelude.{◌≡◌, ℕ, ◌+◌, ◌≤◌, List, length}
use Rattle.std.specs.List.{Contains}
use Rattle.atomic_table.specs.Seated.{TableId}
use Rattle.intake_queue.specs.Parcel.{ParcelData, sent_by}
use Rattle.intake_queue.specs.Ends.{SenderData, TakerData}

-- a note of an intake: of senders, each with a count, at least so many parcels were accepted; and at least so many were taken
pub record NoteData : Type 0 where
  pub intake : TableId
  pub accepted : List (ℕ × ℕ)
  pub taken : ℕ

-- of each sender, as many of its parcels are among these as were heard of
abbrev pub HasAllHeard : List (ℕ × ℕ) → List ParcelData → Type 0
HasAllHeard heard parcels = (sender count : ℕ) → Contains heard (sender, count) → count ≤ length (sent_by sender parcels)

-- no parcel is left that the taker has heard of
abbrev pub HasTakenAllHeard : TakerData → Type 0
HasTakenAllHeard taker = HasAllHeard taker.heard taker.taken

-- an only sender has had so many parcels accepted that were not taken, by what it has heard
abbrev pub MayHaveLeft : ℕ → SenderData → Type 0
MayHaveLeft count sender = sender.senders ≡ 1 → sender.heard + count ≤ length sender.accepted
