-- What a seat of the lock knows.
use Rattle.std.specs.Prelude.{◌≡◌, ℕ, zero, suc, ◌+◌, ◌==◌, if◌then◌else◌, Bool, true, false, List, [], ◌∷◌, length, Option, Some, None}
use Rattle.node_lock.specs.declared.rule.SeatView.{SeatView}
use Rattle.node_lock.specs.Trail.{Entry, Receipt, receipts_of}
use Rattle.node_lock.specs.Passes.{PassData}

-- a pass that a seat represents: its number, and its receipts
abbrev pub Part : Type 0
Part = ℕ × List Receipt

-- a seat that represents these passes, and does not have the slot
abbrev pub standing_for : ℕ → List Part → SeatView
standing_for passes parts = record { passes = passes; parts = parts; holds = false; noted = [] }

-- the same, with the slot, whose state had this trail when it was taken
abbrev pub holding : ℕ → List Part → List Entry → SeatView
holding passes parts trail = record { passes = passes; parts = parts; holds = true; noted = trail }

-- so many passes, numbered from `first` on, without receipts
abbrev pub new_parts : ℕ → ℕ → List Part
new_parts first zero = []
new_parts first (suc n) = (first, []) ∷ new_parts (suc first) n

abbrev pub first_part : List Part → List Part
first_part [] = []
first_part (p ∷ ps) = p ∷ []

abbrev pub rest_parts : List Part → List Part
rest_parts [] = []
rest_parts (p ∷ ps) = ps

-- the receipts of the first pass
abbrev pub list_in : List Part → List Receipt
list_in [] = []
list_in (p ∷ ps) = p.1

-- the trail that a seat noted, where it holds the slot
abbrev pub out_of : Bool → List Entry → Option (List Entry)
out_of true trail = Some trail
out_of false trail = None

-- the slot, empty, where a seat holds it
abbrev pub carried : {S : Type 0} → Bool → List (ℕ × Option S)
carried true = (0, None) ∷ []
carried false = []

abbrev pub part_of : PassData → Part
part_of p = (p.number, p.list)

-- each pass's list is that of its entries in the trail
abbrev pub ListsAreTrue : List Part → List Entry → Type 0
ListsAreTrue [] trail = Unit {0}
ListsAreTrue (p ∷ ps) trail = (p.1 ≡ receipts_of p.0 trail) × ListsAreTrue ps trail

-- a measure over these passes
abbrev pub tally : (Part → ℕ) → List Part → ℕ
tally f [] = 0
tally f (p ∷ ps) = f p + tally f ps

-- a measure over the passes of all seats
abbrev pub total : (Part → ℕ) → List SeatView → ℕ
total f [] = 0
total f (v ∷ vs) = tally f v.parts + total f vs

abbrev pub one : Part → ℕ
one p = 1

-- how many receipts the pass has
abbrev pub weight : Part → ℕ
weight p = length p.1

-- 1 where it is the pass of this number
abbrev pub is_of : ℕ → Part → ℕ
is_of pass p = if p.0 == pass then 1 else 0
