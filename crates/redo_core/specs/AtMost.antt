-- The order of meanings inside one log.
use Rattle.std.specs.Prelude.{ℕ, List}
use Rattle.redo_core.specs.Sets.{IsPart}
use Rattle.redo_core.specs.Meaning.{Meaning, IsMeaning}
use Rattle.redo_core.specs.declared.facts.Fact.{Fact}

-- x is at most y where a part of the log that means x lies within one that means y
abbrev pub IsAtMost : ℕ → List Fact → Meaning → Meaning → Type 0
IsAtMost roster log x y = (smaller larger : List Fact) × IsPart smaller larger × IsPart larger log × IsMeaning roster smaller x × IsMeaning roster larger y
