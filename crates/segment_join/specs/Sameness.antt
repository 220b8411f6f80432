-- When two segments mean the same.
use Rattle.std.specs.Prelude.{◌≡◌, ℕ, ◌↔◌, ◌++◌, List, Bool, IsTrue}
use Rattle.std.specs.List.{Contains}
use Rattle.redo_core.specs.Data.{RecordData}
use Rattle.redo_core.specs.Sound.{IsSound}
use Rattle.redo_core.specs.Meaning.{Meaning, IsMeaning}
use Rattle.redo_core.specs.declared.facts.Fact.{Fact}
use Rattle.segment_theorems.specs.State.{State}
use Rattle.segment_theorems.specs.Means.{Means}
use Rattle.segment_theorems.specs.Shows.{Shows}
use Rattle.segment_theorems.specs.HasMeaning.{HasMeaning}

-- By the meanings that the two have by themselves, for arbitrary facts.
abbrev pub ReportsSame : State → State → Bool → Type 0
ReportsSame s t answer = (y x : Meaning) → HasMeaning s y → HasMeaning t x → IsTrue answer ↔ (y ≡ x)

-- Inside one sound log: the parts that the two mean have one meaning.
abbrev pub SameByParts : State → State → Bool → Type 0
SameByParts s t answer =
    (roster : ℕ) (log F G : List Fact) (y x : Meaning)
    → IsSound roster log → Means roster log F s → Means roster log G t → IsMeaning roster F y → IsMeaning roster G x
    → IsTrue answer ↔ (y ≡ x)

-- the two states show the same of a page, each at a point of its own
abbrev pub ShowOne : State → ℕ → State → ℕ → ℕ → Type 0
ShowOne s point t other page = (image : List ℕ) × Shows s page point image × Shows t page other image

-- no stored record of either state writes the page
abbrev pub IsUnwritten : State → State → ℕ → Type 0
IsUnwritten s t page = (r : RecordData) → Contains (s.held ++ t.held) r → r.page ≡ page → ⊥

-- They show the same of just these pages.
abbrev pub ReportsPages : State → ℕ → State → ℕ → ((ℕ → Type 0) → Type 0) → Bool → Type 0
ReportsPages s point t other ThesePages answer = IsTrue answer ↔ ThesePages (ShowOne s point t other)
