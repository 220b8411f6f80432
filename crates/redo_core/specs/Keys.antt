-- The keys of records, and their order.
use Rattle.std.specs.Prelude.{ℕ, ◌<◌, ◌≤◌}
use Rattle.std.specs.Ordering.{nat_cmp, ordering_then}
use Rattle.std.specs.declared.cmp.Ordering.{Ordering}
use Rattle.redo_core.specs.Data.{RecordData}
use Rattle.redo_core.specs.Shape.{max_number}
use Rattle.redo_core.specs.Order.{PairBefore}
use Rattle.redo_core.specs.declared.keys.Key.{Key}

abbrev pub key_in : ℕ → ℕ → Key
key_in epoch number = record { epoch = epoch; number = number }

abbrev pub key_of : RecordData → Key
key_of r = key_in r.epoch r.number

-- an LSN that a record may have
abbrev pub IsKey : Key → Type 0
IsKey k = (0 < k.number) × (k.number ≤ max_number)

-- keys by epoch, then LSN
abbrev pub KeyBefore : Key → Key → Type 0
KeyBefore k l = PairBefore k.epoch k.number l.epoch l.number

-- the same order, as a comparison
abbrev pub key_cmp : Key → Key → Ordering
key_cmp k l = ordering_then (nat_cmp k.epoch l.epoch) (nat_cmp k.number l.number)
