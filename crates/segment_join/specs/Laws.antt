-- The laws of merging: what joined segments mean, and what a quorum of six has.
use Rattle.std.specs.Prelude.{◌≡◌, ℕ, ◌≤◌, ◌↔◌, Bool, true, List, length}
use Rattle.std.specs.List.{AllByRecursion, AllZip}
use Rattle.redo_core.specs.Sets.{IsPart}
use Rattle.redo_core.specs.Sound.{IsSound}
use Rattle.redo_core.specs.Meaning.{Meaning, IsMeaning}
use Rattle.redo_core.specs.declared.facts.Fact.{Fact}
use Rattle.log_theorems.specs.OrderOfMeanings.{Covers}
use Rattle.log_theorems.specs.Overlap.{IsAtOrAbove, chosen_count, union_of}
use Rattle.segment_theorems.specs.State.{State}
use Rattle.segment_theorems.specs.Means.{Means}
use Rattle.segment_theorems.specs.HasMeaning.{HasMeaning}
use Rattle.segment_join.specs.Joining.{MeansUnion}

-- Meanings of parts of one log that cover each other are one.
abbrev pub Antisymmetry : Type 0
Antisymmetry =
    (roster : ℕ) (log part other : List Fact) (x y : Meaning)
    → IsSound roster log → IsPart part log → IsPart other log → IsMeaning roster part x → IsMeaning roster other y
    → Covers x y → Covers y x → x ≡ y

-- the two states have the same meaning
abbrev pub MeanTheSame : State → State → Type 0
MeanTheSame s t = (m : Meaning) → HasMeaning s m ↔ HasMeaning t m

-- three states that mean parts of one sound log
pub record AreOfLog (roster : ℕ) (log : List Fact) (s t w : State) : Type 0 where
  pub sound : IsSound roster log
  pub first : (facts : List Fact) × Means roster log facts s
  pub second : (facts : List Fact) × Means roster log facts t
  pub third : (facts : List Fact) × Means roster log facts w

-- A joined segment is at or above both, and below every other that is.
abbrev pub JoinsAreLeast : Type 0
JoinsAreLeast =
    (roster : ℕ) (log : List Fact) (s t w joined : State) (x y z m : Meaning)
    → AreOfLog roster log s t w → HasMeaning s x → HasMeaning t y → HasMeaning w z → MeansUnion s t joined → HasMeaning joined m
    → Covers m x × Covers m y × (Covers z x → Covers z y → Covers z m)

-- Which of two segments is joined into the other does not matter.
abbrev pub JoinsCommute : Type 0
JoinsCommute =
    (roster : ℕ) (log : List Fact) (s t one other : State)
    → AreOfLog roster log s t t → MeansUnion s t one → MeansUnion t s other → MeanTheSame one other

-- Nor in which order three are.
abbrev pub JoinsAssociate : Type 0
JoinsAssociate =
    (roster : ℕ) (log : List Fact) (s t w front back one other : State)
    → AreOfLog roster log s t w → MeansUnion s t front → MeansUnion front w one → MeansUnion t w back → MeansUnion s back other → MeanTheSame one other

-- A segment that is joined with a copy of itself means what it meant.
abbrev pub JoinWithItself : Type 0
JoinWithItself = (roster : ℕ) (log : List Fact) (s joined : State) → AreOfLog roster log s s s → MeansUnion s s joined → MeanTheSame joined s

-- Segments that mean the same still do after a third is joined into each.
abbrev pub JoinsAgree : Type 0
JoinsAgree =
    (roster : ℕ) (log : List Fact) (s t w one other : State) (m : Meaning)
    → AreOfLog roster log s t w → HasMeaning s m → HasMeaning t m → MeansUnion s w one → MeansUnion t w other → MeanTheSame one other

-- Of six parts of a log, where four are at or above (k, n), the union of any three is.
abbrev pub WriteFourReadThree : Type 0
WriteFourReadThree =
    (roster : ℕ) (log : List Fact) (parts : List (List Fact)) (reached chosen : List Bool) (k n : ℕ)
    → IsSound roster log → AllByRecursion (λ part. IsPart part log) parts
    → AllZip (λ b part. b ≡ true → IsAtOrAbove roster k n part) reached parts → length chosen ≡ length parts
    → length parts ≡ 6 → 4 ≤ chosen_count reached → 3 ≤ chosen_count chosen
    → IsAtOrAbove roster k n (union_of chosen parts)
