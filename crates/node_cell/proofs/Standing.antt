-- The receipts of a pass are in the trail.
use Rattle.std.proofs.Common.{◌≡◌, ℕ, ◌-◌, ◌<◌, List, [], ◌∷◌, Some, rules}
use Rattle.std.specs.Prelude.{slice_get}
use Rattle.std.specs.List.{AllByRecursion}
use Rattle.node_lock.specs.Trail.{Entry, Receipt, HasReceipts}
use Rattle.node_cell.specs.Laws.{receipt_of}
use Rattle.node_cell.specs.Settling.{found_at, Stands}

at_place : (trail : List Entry) (place pass p : ℕ) → 0 < place → slice_get trail (place - 1) ≡ Some (pass, p) → found_at trail place ≡ Some p
at_place trail place pass p l at = search rules

pub each : (trail : List Entry) (pass : ℕ) (list : List Receipt) → HasReceipts trail pass list → AllByRecursion (λ r. Stands trail (receipt_of r)) list
each trail pass [] has = tt
each trail pass (r ∷ rs) has = (at_place trail r.0 pass r.1 has.0.0 has.0.1, each trail pass rs has.1)
