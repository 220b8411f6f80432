-- What receipts mean.
use Rattle.std.specs.Prelude.{ℕ, List}
use Rattle.std.specs.List.{AllByRecursion}
use Rattle.node_lock.specs.Trail.{Entry, Receipt, HasReceipts}
use Rattle.node_cell.specs.Receipt.{ReceiptData}
use Rattle.node_cell.specs.Settling.{Stands}

-- a receipt of a pass's list
abbrev pub receipt_of : Receipt → ReceiptData
receipt_of r = record { place = r.0; log_place = r.1 }

-- The receipts of a pass are at their places in each trail that has them.
abbrev pub ReceiptsStand : Type 0
ReceiptsStand =
    (trail : List Entry) (pass : ℕ) (list : List Receipt) → HasReceipts trail pass list → AllByRecursion (λ r. Stands trail (receipt_of r)) list
