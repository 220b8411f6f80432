-- What a call that reads returns: what reading gives, unless memory runs out.
use Rattle.std.specs.Prelude.{◌≡◌, Result, Ok, Err}
use Rattle.redo_wire.specs.declared.faults.WireFault.{WireFault}
use Rattle.redo_wire.specs.declared.faults.WireError.{WireError}
use Rattle.redo_wire.specs.declared.faults.WireError.TheVariants as errors

-- the call failed by lack of memory, or by the fault of the reading
abbrev pub Fails : {Y : Type 0} → WireError → Result Y WireFault → Type 0
Fails errors.Memory read = Unit {0}
Fails (errors.Fault f) read = read ≡ Err f

-- the call returned what the reading gives, seen by `view`, unless memory ran out
abbrev pub Gives : {X Y : Type 0} → (X → Y) → Result X WireError → Result Y WireFault → Type 0
Gives view (Ok x) read = read ≡ Ok (view x)
Gives view (Err e) read = Fails e read

-- the same, for a value without a view
abbrev pub GivesRead : {X : Type 0} → Result X WireError → Result X WireFault → Type 0
GivesRead result read = Gives (λ x. x) result read
