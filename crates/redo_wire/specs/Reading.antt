-- Reading from front to back, up to the first fault.
use Rattle.std.specs.Prelude.{ℕ, Bool, List, length, Result, Ok, Err, ◌==◌, if◌then◌else◌}
use Rattle.redo_wire.specs.declared.faults.WireFault.{WireFault}
use Rattle.redo_wire.specs.declared.faults.WireFault.TheVariants.{UnknownTag, Shape, Order, Rest}

-- a value and the bytes after it, or the first fault
abbrev pub Read : Type 0 → Type 0
Read A = Result (A × List ℕ) WireFault

-- one field after another: a fault ends the reading
infixl 10 ◌>>=◌
abbrev pub ◌>>=◌ : {A B : Type 0} → Result A WireFault → (A → Result B WireFault) → Result B WireFault
(Ok x) >>= f = f x
(Err e) >>= f = Err e

-- a field for which a shape rule holds, judged as soon as the field is read
abbrev pub shaped : {A : Type 0} → (A → Bool) → Read A → Read A
shaped rule (Ok x) = if rule x.0 then Ok x else Err Shape
shaped rule (Err f) = Err f

-- a tag or a kind that may come here, judged as soon as it is read
abbrev pub known : {A : Type 0} → (A → Bool) → Read A → Read A
known rule (Ok x) = if rule x.0 then Ok x else Err UnknownTag
known rule (Err f) = Err f

-- an element that is in order, judged as soon as the element is whole
abbrev pub ordered : {A : Type 0} → (A → Bool) → Read A → Read A
ordered rule (Ok x) = if rule x.0 then Ok x else Err Order
ordered rule (Err f) = Err f

-- what was read, as another type
abbrev pub mapped : {A B : Type 0} → (A → B) → Read A → Read B
mapped f (Ok x) = Ok (f x.0, x.1)
mapped f (Err e) = Err e

-- a value that takes all of the bytes
abbrev pub whole : {A : Type 0} → Read A → Result A WireFault
whole (Ok x) = if length x.1 == 0 then Ok x.0 else Err Rest
whole (Err f) = Err f
