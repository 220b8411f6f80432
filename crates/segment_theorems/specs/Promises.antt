-- What the calls of a segment promise, for every set of facts of every sound log.
use Rattle.std.specs.Prelude.{ℕ, ◌≤◌, List, [], ◌∷◌, ◌++◌}
use Rattle.std.specs.List.{Contains}
use Rattle.redo_core.specs.Sets.{IsPart}
use Rattle.redo_core.specs.Position.{Position, IsPosition}
use Rattle.redo_core.specs.PageAt.{IsPageAt}
use Rattle.redo_core.specs.Sound.{IsSound}
use Rattle.redo_core.specs.Meaning.{Meaning, IsMeaning}
use Rattle.redo_core.specs.declared.facts.Fact.{Fact}
use Rattle.segment_theorems.specs.State.{State}
use Rattle.segment_theorems.specs.Means.{Means}

-- wherever the old state means facts of a sound log that has the fact, the new state means the facts with it
abbrev pub TakesFact : State → Fact → State → Type 0
TakesFact old fact new =
    (roster : ℕ) (log facts : List Fact) → IsSound roster log → Contains log fact → Means roster log facts old → Means roster log (facts ++ fact ∷ []) new

-- the new state means what the old one meant
abbrev pub KeepsMeaning : State → State → Type 0
KeepsMeaning old new = (roster : ℕ) (log facts : List Fact) → IsSound roster log → Means roster log facts old → Means roster log facts new

-- the meaning of the facts that the state means is the same with the fact
abbrev pub LeavesMeaning : State → Fact → Type 0
LeavesMeaning s fact =
    (roster : ℕ) (log facts : List Fact) (m : Meaning)
    → IsSound roster log → Contains log fact → Means roster log facts s → IsMeaning roster facts m → IsMeaning roster (facts ++ fact ∷ []) m

-- it is another with the fact
abbrev pub ChangesMeaning : State → Fact → Type 0
ChangesMeaning s fact =
    (roster : ℕ) (log facts : List Fact) (m : Meaning)
    → IsSound roster log → Contains log fact → Means roster log facts s → IsMeaning roster facts m → IsMeaning roster (facts ++ fact ∷ []) m → ⊥

-- the image is the page at a version that is not above the anchor of some part of the log, so it never changes
pub record IsFinalPage (roster : ℕ) (log : List Fact) (page version : ℕ) (image : List ℕ) : Type 0 where
  pub facts : List Fact
  pub part : IsPart facts log
  pub p : Position
  pub position : IsPosition roster facts p
  pub settled : version ≤ p.anchor
  pub shown : IsPageAt facts p.epoch page version image

-- where the image is such a page of the log, the new state means what the old one meant
abbrev pub KeepsMeaningWith : State → ℕ → ℕ → List ℕ → State → Type 0
KeepsMeaningWith old page version image new =
    (roster : ℕ) (log facts : List Fact) → IsSound roster log → IsFinalPage roster log page version image → Means roster log facts old
    → Means roster log facts new
