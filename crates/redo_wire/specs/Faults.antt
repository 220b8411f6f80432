-- The numbers of the faults.
use Rattle.std.specs.Prelude.{ℕ}
use Rattle.redo_wire.specs.declared.faults.WireFault.{WireFault}
use Rattle.redo_wire.specs.declared.faults.WireFault.TheVariants.{Short, UnknownTag, Shape, Order, Rest, TooLong}

-- the number by which a fault is reported
abbrev pub fault_number : WireFault → ℕ
fault_number Short = 1
fault_number UnknownTag = 2
fault_number Shape = 3
fault_number Order = 4
fault_number Rest = 5
fault_number TooLong = 6
