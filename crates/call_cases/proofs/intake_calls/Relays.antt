-- What is in turn from an only sender.
use Rattle.std.proofs.Common.{◌≡◌, ℕ, ◌+◌, ◌<◌, ◌^◌, List, [], ◌∷◌, ◌++◌, length, sym, ap, subst, ◌∙◌, arith, Some, append_assoc, length-append}
use Rattle.std.specs.Prelude.{slice_get, All}
use Rattle.std.proofs.lemmas.List.{length-map}
use Rattle.atomic_table.specs.Seated.{TableId}
use Rattle.std.proofs.lemmas.List.Elements.{Contains-push}
use Rattle.named_log.specs.Places.{PlacedFact}
use Rattle.redo_core.proofs.Members.{none_in, here}
use Rattle.redo_core.proofs.ByPlace.{index_of}
use Rattle.intake_queue.specs.Parcel.{ParcelData, sent_by, parcel_facts, AreInTurn}
use Rattle.intake_queue.specs.Ends.{SenderData, new_sender, AreNewSenders}
use Rattle.intake_queue.specs.Heard.{HasAllHeard}
use Rattle.intake_queue.specs.Left.{IsLeft}
use Rattle.intake_queue.proofs.Parcels.{all_mine}

pub none_in_turn : AreInTurn 1 []
none_in_turn = record { among = λ p c. absurd (none_in p c); numbered = λ sender k p e. absurd cc }

all_of_one : (parcels : List ParcelData) → AreInTurn 1 parcels → sent_by 1 parcels ≡ parcels
all_of_one parcels h = all_mine 1 parcels (λ p c. let a = h.among p c in omega (arith, a.0, a.1))

-- a taker that took less than it heard of finds something
pub finds : (taken : List ParcelData) (heard : List (ℕ × ℕ)) (count : ℕ) → AreInTurn 1 taken
    → HasAllHeard (heard ++ (1, count) ∷ []) taken → length taken < count → ⊥
finds taken heard count h all less =
    let enough = all 1 count (Contains-push heard (1, count)) in
    absurd (omega (arith, enough, ap length (all_of_one taken h), less))

-- what was taken and what is left are what was accepted
pub all_accepted : (taken left : List ParcelData) (s : SenderData) → s.number ≡ 1 → IsLeft (s ∷ []) taken left
    → AreInTurn 1 (taken ++ left) → taken ++ left ≡ s.accepted
all_accepted taken left s one is_left h =
    sym (all_of_one (taken ++ left) h) ∙ (ap (λ n. sent_by n (taken ++ left)) (sym one) ∙ is_left s (here s []))

-- the only new sender
pub only_new : (intake : TableId) (made : List SenderData) (s : SenderData) → AreNewSenders intake 1 1 made → made ≡ s ∷ []
    → s ≡ new_sender intake 1 1
only_new intake made s h is =
    let first : Some s ≡ Some (new_sender intake 1 1) = subst (λ xs. slice_get xs 0 ≡ Some (new_sender intake 1 1)) is (h.1 0 (omega arith)) in cc

-- facts that were accepted, before those that are left, where the next of these is accepted
pub one_more : (accepted after : List ParcelData) (fact : PlacedFact) (left rest facts : List PlacedFact)
    → parcel_facts after ≡ parcel_facts accepted ++ fact ∷ [] → left ≡ fact ∷ rest → parcel_facts accepted ++ left ≡ facts
    → length accepted + length left < 2 ^ 64 → (parcel_facts after ++ rest ≡ facts) × (length after + length rest < 2 ^ 64)
one_more accepted after fact left rest facts put is done numbers =
    let joined : (parcel_facts accepted ++ fact ∷ []) ++ rest ≡ parcel_facts accepted ++ fact ∷ rest =
    append_assoc (parcel_facts accepted) (fact ∷ []) rest in
    let more : length (parcel_facts after) ≡ length (parcel_facts accepted) + 1 =
    ap length put ∙ length-append (parcel_facts accepted) (fact ∷ []) in (
      ap (λ xs. xs ++ rest) put ∙ (joined ∙ (ap (λ xs. parcel_facts accepted ++ xs) (sym is) ∙ done)),
      omega (arith, more, length-map after (λ p. p.fact), length-map accepted (λ p. p.fact), ap length is, numbers),
    )

-- both new senders
pub both_new : (intake : TableId) (made : List SenderData) (one other : SenderData) → AreNewSenders intake 2 2 made → made ≡ one ∷ other ∷ []
    → (one.intake ≡ intake) × (other.intake ≡ intake)
both_new intake made one other h is =
    let first : Some one ≡ Some (new_sender intake 2 1) = subst (λ xs. slice_get xs 0 ≡ Some (new_sender intake 2 1)) is (h.1 0 (omega arith)) in
    let second : Some other ≡ Some (new_sender intake 2 2) = subst (λ xs. slice_get xs 1 ≡ Some (new_sender intake 2 2)) is (h.1 1 (omega arith)) in
    let one_is : one ≡ new_sender intake 2 1 = cc in
    let other_is : other ≡ new_sender intake 2 2 = cc in (ap (λ s. s.intake) one_is, ap (λ s. s.intake) other_is)

-- all new senders are of the intake
pub all_new : (intake : TableId) (senders : ℕ) (made : List SenderData) → AreNewSenders intake senders senders made → All (λ s. s.intake ≡ intake) made
all_new intake senders made h k d within =
    let here = h.1 k (omega (arith, within, h.0)) in
    ap (λ s. s.intake) (index_of made k (new_sender intake senders (k + 1)) d here)
