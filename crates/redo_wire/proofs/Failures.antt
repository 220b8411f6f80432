-- A call that fails returns the first fault, and what follows it is not read.
use Rattle.std.proofs.Common.{◌≡◌, Bool, Result, IsErrAnd, refl, rules}
use Rattle.redo_wire.specs.declared.faults.WireFault.{WireFault}
use Rattle.redo_wire.specs.declared.faults.WireError.{WireError}
use Rattle.redo_wire.specs.declared.faults.WireError.TheVariants.{Memory, Fault}
use Rattle.redo_wire.specs.Reading.{◌>>=◌, Read, shaped}
use Rattle.redo_wire.specs.Outcomes.{Fails, Gives}

pub handed_on : {X Y : Type 0} (view : X → Y) (result : Result X WireError) (e : WireError) (read : Result Y WireFault) → IsErrAnd result (λ y. y ≡ e)
    → Fails e read → Gives view result read
handed_on view result e read is fails = search rules

pub fails_then : {A B : Type 0} (e : WireError) (read : Result A WireFault) (f : A → Result B WireFault) → Fails e read → Fails e (read >>= f)
fails_then Memory read f fails = tt
fails_then (Fault g) read f fails = rw fails refl

-- the same where the field is judged as soon as it is read
pub fails_shaped : {A : Type 0} (e : WireError) (rule : A → Bool) (read : Read A) → Fails e read → Fails e (shaped rule read)
fails_shaped Memory rule read fails = tt
fails_shaped (Fault g) rule read fails = rw fails refl
