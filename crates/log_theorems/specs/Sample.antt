-- A small sound log, so that the theorems are not vacuous.
use Rattle.std.specs.Prelude.{false, List, [], ◌∷◌}
use Rattle.redo_core.specs.declared.facts.Fact.{Fact}
use Rattle.redo_core.specs.declared.facts.Fact.TheVariants.{Record, Cut, Advance}
use Rattle.redo_core.specs.Sound.{IsSound}

abbrev pub sample : List Fact
sample =
    Record (record { epoch = 0; number = 3; back = 0; page = 7; block_back = 0; init = false; patches = [] })
    ∷ Advance (record { epoch = 0; reader = 1; point = 3 })
    ∷ Cut (record { epoch = 1; lo = 5; hi = 20 })
    ∷ []

abbrev pub SampleIsSound : Type 0
SampleIsSound = IsSound 1 sample
