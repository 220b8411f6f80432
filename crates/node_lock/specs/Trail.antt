-- A trail, and the receipts of a pass: its entries there, each with its place.
use Rattle.std.specs.Prelude.{◌≡◌, ℕ, suc, ◌-◌, ◌<◌, ◌==◌, if◌then◌else◌, List, [], ◌∷◌, slice_get, Some}

-- the number of the pass that appended the entry, and a place in the log
abbrev pub Entry : Type 0
Entry = ℕ × ℕ

-- a place in the trail, from 1, and the place in the log that the entry there has
abbrev pub Receipt : Type 0
Receipt = ℕ × ℕ

-- the entries of the pass, where the first of the list is at `place`
abbrev pub receipts_from : ℕ → ℕ → List Entry → List Receipt
receipts_from place pass [] = []
receipts_from place pass (e ∷ es) = if e.0 == pass then (place, e.1) ∷ receipts_from (suc place) pass es else receipts_from (suc place) pass es

-- the entries of the pass in the trail, in order, with their places
abbrev pub receipts_of : ℕ → List Entry → List Receipt
receipts_of pass trail = receipts_from 1 pass trail

-- each of these receipts of the pass is in the trail, at its place
abbrev pub HasReceipts : List Entry → ℕ → List Receipt → Type 0
HasReceipts trail pass [] = Unit {0}
HasReceipts trail pass (r ∷ rs) = ((0 < r.0) × (slice_get trail (r.0 - 1) ≡ Some (pass, r.1))) × HasReceipts trail pass rs
