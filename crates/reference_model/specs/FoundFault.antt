-- The law that the fact at an index breaks first.
use Rattle.std.specs.Prelude.{ℕ, List, Option, MatchOption}
use Rattle.redo_core.specs.Sound.{KeepsLaws}
use Rattle.redo_core.specs.Fault.{BreaksFirst}
use Rattle.redo_core.specs.declared.facts.Fact.{Fact}
use Rattle.redo_core.specs.declared.laws.Law.{Law}

-- the least law that the fact breaks, if it breaks one
abbrev pub FindsFault : ℕ → List Fact → ℕ → Fact → Option Law → Type 0
FindsFault roster log place fact found = MatchOption found (KeepsLaws roster log place fact) (BreaksFirst roster log place fact)
