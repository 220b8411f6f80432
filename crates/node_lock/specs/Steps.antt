-- What the seat that makes an atomic step learns: a load, a compare-exchange of 0 to 1, a swap to 0.
use Rattle.std.specs.Prelude.{◌≡◌, ◌≢◌, ℕ, suc, ◌<◌, true, false, List, [], ◌∷◌, ◌++◌, length, Option, Some, None}
use Rattle.atomic_table.specs.Table.{Me, Step}
use Rattle.node_lock.specs.declared.rule.SeatView.{SeatView}
use Rattle.node_lock.specs.Trail.{Entry, Receipt}
use Rattle.node_lock.specs.Known.{standing_for, holding, ListsAreTrue, tally, weight}

-- each of the seat's lists is right, and with all passes they are together as long as the trail
abbrev pub KnowsTrail : SeatView → List Entry → Type 0
KnowsTrail v trail = ListsAreTrue v.parts trail × (0 < v.passes → length v.parts ≡ v.passes → tally weight v.parts ≡ length trail)

module _ {S : Type 0} where
  -- the seat does not hold the slot
  abbrev pub IsIdle : Me (Option S) SeatView → Type 0
  IsIdle me = (me.0.holds ≡ false) × (me.1 ≡ [])

  -- the seat holds the slot, empty, and took a state with this trail out of it
  abbrev pub IsHolding : Me (Option S) SeatView → List Entry → Type 0
  IsHolding me trail = (me.0.holds ≡ true) × (me.0.noted ≡ trail) × (me.1 ≡ (0, None) ∷ [])

module _ {S : Type 0} (trail_of : S → List Entry) (keeps : S → Type 0) where
  -- a load makes a seat that represents no pass
  abbrev pub IsSeated : Step (Option S) → Me (Option S) SeatView → ℕ → Me (Option S) SeatView → Type 0
  IsSeated step me found new = new ≡ (standing_for me.0.passes [], [])

  -- where the word was 0, the seat has the slot with the state, and notes its trail; else nothing changes
  abbrev pub TakesState : Step (Option S) → Me (Option S) SeatView → ℕ → Me (Option S) SeatView → Type 0
  TakesState step me found new =
      (found ≡ 0 → (d : S) × (new ≡ (holding me.0.passes me.0.parts (trail_of d), (0, Some d) ∷ me.1)) × keeps d × KnowsTrail me.0 (trail_of d))
      × (found ≢ 0 → new ≡ me)

  -- the slot goes back, with the trail that was noted
  abbrev pub IsGiven : Step (Option S) → Me (Option S) SeatView → ℕ → Me (Option S) SeatView → Type 0
  IsGiven step me found new = new ≡ (standing_for me.0.passes me.0.parts, [])

  -- the slot goes back, where the seat's one pass has appended an entry, whose receipt its list then has
  abbrev pub IsPosted : Step (Option S) → Me (Option S) SeatView → ℕ → Me (Option S) SeatView → Type 0
  IsPosted step me found new = (pass place : ℕ) (list : List Receipt) (d : S) → me.0.parts ≡ (pass, list) ∷ [] → me.1 ≡ (0, Some d) ∷ []
      → trail_of d ≡ me.0.noted ++ (pass, place) ∷ [] → new ≡ (standing_for me.0.passes ((pass, list ++ (suc (length me.0.noted), place) ∷ []) ∷ []), [])
