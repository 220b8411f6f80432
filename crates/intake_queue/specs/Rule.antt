-- The rule of an intake: of each sender, what was accepted is what was taken and then what is left.
use Rattle.std.specs.Prelude.{◌≡◌, ℕ, ◌+◌, ◌<◌, ◌≤◌, true, false, List, [], ◌∷◌, ◌++◌, length}
use Rattle.std.specs.List.{Contains}
use mathlib.Core.Option.{some}
use lib.ListN.{get_elem?}
use Rattle.intake_queue.specs.Parcel.{ParcelData, sent_by, AreNumbered, IsSenderOf, AreInTurn}
use Rattle.intake_queue.specs.Heard.{HasAllHeard}
use Rattle.intake_queue.specs.Known.{KnownData, taker, sender}

-- a sender's pass is the one that speaks for its number, and knows all that was accepted under it
pub record FitsSender (senders : ℕ) (speaker : ℕ → ℕ) (accepted : ℕ → List ParcelData) (pass : ℕ) (v : KnownData) : Type 0 where
  pub among : IsSenderOf senders v.number
  pub count : v.senders ≡ senders
  pub speaks : speaker v.number ≡ pass
  pub knows : v.accepted ≡ accepted v.number

-- the taker's pass knows all that was taken; it speaks for the numbers that no sender has yet, and for those handed in
pub record FitsTaker (senders : ℕ) (taker : ℕ) (speaker : ℕ → ℕ) (accepted : ℕ → List ParcelData) (taken : List ParcelData) (pass : ℕ)
    (v : KnownData) : Type 0 where
  pub own : pass ≡ taker
  pub silent : v.sends ≡ false
  pub count : v.senders ≡ senders
  pub knows : v.taken ≡ taken
  pub later : (p : ℕ) → v.made < p → (speaker p ≡ taker) × (accepted p ≡ [])
  pub over : (p : ℕ) (all : List ParcelData) → Contains v.ended (p, all) → (p ≤ v.made) × (speaker p ≡ taker) × (accepted p ≡ all)

-- what a pass heard is true: at least so many parcels were accepted, and at least so many were taken
abbrev pub HeardTrue : (ℕ → List ParcelData) → List ParcelData → KnownData → Type 0
HeardTrue accepted taken v =
    ((p count : ℕ) → Contains v.accepted_counts (p, count) → count ≤ length (accepted p)) × (v.taken_count ≤ length taken)

pub record Delivers (items : List ParcelData) (views : List KnownData) : Type 0 where
  pub taker : ℕ
  pub senders : ℕ
  pub speaker : ℕ → ℕ
  pub accepted : ℕ → List ParcelData
  pub taken : List ParcelData
  pub each : (p : ℕ) → sent_by p (taken ++ items) ≡ accepted p
  pub numbered : (p : ℕ) → AreNumbered (accepted p)
  pub among : (x : ParcelData) → Contains (taken ++ items) x → IsSenderOf senders x.sender
  pub sending : (pass : ℕ) (v : KnownData) → get_elem? views pass ≡ some v → v.sends ≡ true → FitsSender senders speaker accepted pass v
  pub taking : (pass : ℕ) (v : KnownData) → get_elem? views pass ≡ some v → v.takes ≡ true → FitsTaker senders taker speaker accepted taken pass v
  pub heard : (pass : ℕ) (v : KnownData) → get_elem? views pass ≡ some v → HeardTrue accepted taken v

-- the sender's view after its parcel was accepted
abbrev pub after_offer : KnownData → ParcelData → KnownData
after_offer v x = sender v.number v.senders (v.accepted ++ x ∷ []) v.taken_count

-- the taker took the parcel, which is the next of its sender
pub record IsTake (v : KnownData) (x : ParcelData) (w : KnownData) : Type 0 where
  pub view : w ≡ taker (v.taken ++ x ∷ []) v.senders v.made v.ended v.accepted_counts
  pub next : x.number ≡ length (sent_by x.sender v.taken) + 1
  pub in_turn : AreInTurn v.senders (v.taken ++ x ∷ [])

-- an only sender has had all items accepted, and those that it has heard to be taken
abbrev pub HoldsOwn : KnownData → List ParcelData → Type 0
HoldsOwn v items = v.senders ≡ 1 → v.taken_count + length items ≤ length v.accepted

-- of each sender that was handed in, what was accepted is what was taken and then what is left
abbrev pub AreWhole : List (ℕ × List ParcelData) → List ParcelData → List ParcelData → Type 0
AreWhole ended taken left = (p : ℕ) (all : List ParcelData) → Contains ended (p, all) → sent_by p (taken ++ left) ≡ all

-- what the taker took and what is left are in turn, and are all that it knows of
pub record HoldsUntaken (v : KnownData) (items : List ParcelData) : Type 0 where
  pub whole : AreWhole v.ended v.taken items
  pub heard : HasAllHeard v.accepted_counts (v.taken ++ items)
  pub in_turn : AreInTurn v.senders (v.taken ++ items)
