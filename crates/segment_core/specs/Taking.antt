-- What a take returns.
use Rattle.std.specs.Prelude.{◌≡◌, ℕ, ◌↔◌, List, [], ◌∷◌, ◌++◌}
use Rattle.std.specs.List.{Contains}
use Rattle.redo_core.specs.Sound.{IsSound}
use Rattle.redo_core.specs.Meaning.{Meaning, IsMeaning}
use Rattle.redo_core.specs.declared.facts.Fact.{Fact}
use Rattle.redo_core.specs.declared.facts.Fact.TheVariants.{Record, Cut, Advance}
use Rattle.segment_theorems.specs.State.{State}
use Rattle.segment_theorems.specs.Means.{Means}
use Rattle.segment_theorems.specs.Known.{IsKnown}
use Rattle.segment_theorems.specs.Learning.{StoresCut, StoresAdvance, PutsRecord}
use Rattle.segment_core.specs.declared.answers.Taken.{Taken}
use Rattle.segment_core.specs.declared.answers.Taken.TheVariants.{Unchanged}

-- Unchanged is returned exactly where the facts, and the facts with the new one, have one meaning.
abbrev pub ReportsChange : State → Fact → Taken → Type 0
ReportsChange old fact taken =
    (roster : ℕ) (log facts : List Fact) (m : Meaning) → IsSound roster log → Contains log fact → Means roster log facts old → IsMeaning roster facts m
    → (taken ≡ Unchanged) ↔ IsMeaning roster (facts ++ fact ∷ []) m

-- It is returned exactly where what is stored contains the fact already, for arbitrary facts.
abbrev pub ReportsKnown : State → Fact → Taken → Type 0
ReportsKnown old fact taken = (taken ≡ Unchanged) ↔ IsKnown old fact

-- The fact has joined what is stored: the record is stored, the truncation is learnt, or the advance takes effect or waits.
abbrev pub Stores : State → Fact → State → Type 0
Stores old (Record r) new = PutsRecord old r new
Stores old (Cut c) new = StoresCut old c new
Stores old (Advance a) new = StoresAdvance old a new

-- what is stored does not contain the fact yet
abbrev pub IsNew : State → Fact → Type 0
IsNew s fact = IsKnown s fact → ⊥
