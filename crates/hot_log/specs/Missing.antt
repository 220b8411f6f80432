-- What one log lacks of another.
use Rattle.std.specs.Prelude.{List}
use Rattle.std.specs.List.{Contains}
use Rattle.redo_core.specs.Data.{RecordData}

-- a stored record of the other log that this one does not store
abbrev pub IsMissing : List RecordData → List RecordData → RecordData → Type 0
IsMissing held other r = Contains other r × (Contains held r → ⊥)
