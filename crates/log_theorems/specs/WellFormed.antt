-- Positions, pages and meanings exist, are unique, and depend only on the members of a set; a log has at most one first fault.
use Rattle.std.specs.Prelude.{◌≡◌, ℕ, ◌↔◌, List}
use Rattle.redo_core.specs.Sets.{IsPart, SameSet, cuts}
use Rattle.redo_core.specs.CompleteEpoch.{HasCutsTo}
use Rattle.redo_core.specs.Linked.{IsLinked}
use Rattle.redo_core.specs.Position.{Position, IsPosition}
use Rattle.redo_core.specs.PageAt.{IsPageAt}
use Rattle.redo_core.specs.Sound.{IsSound}
use Rattle.redo_core.specs.Meaning.{Meaning, IsMeaning}
use Rattle.redo_core.specs.Fault.{IsFirstFault}
use Rattle.redo_core.specs.declared.facts.Fact.{Fact}
use Rattle.redo_core.specs.declared.laws.Law.{Law}

-- there is exactly one x with P
abbrev pub IsOne : {X : Type 0} → (X → Type 0) → Type 0
IsOne {X} P = (x : X) × P x × ((y : X) → P y → y ≡ x)

-- Each part of a sound log has one position.
abbrev pub OnePosition : Type 0
OnePosition = (roster : ℕ) (log part : List Fact) → IsSound roster log → IsPart part log → IsOne (IsPosition roster part)

-- In each view of known truncations each page has one image at each point.
abbrev pub OnePage : Type 0
OnePage =
    (roster : ℕ) (log part : List Fact) (k page q : ℕ)
    → IsSound roster log → IsPart part log → HasCutsTo (cuts part) k → IsOne (IsPageAt part k page q)

-- Each part of a sound log has one meaning.
abbrev pub OneMeaning : Type 0
OneMeaning = (roster : ℕ) (log part : List Fact) → IsSound roster log → IsPart part log → IsOne (IsMeaning roster part)

-- Two lists of the same facts have the same positions, linked LSNs, pages and meanings.
pub record AgreeOn (facts same : List Fact) : Type 0 where
  pub positions : (roster : ℕ) (p : Position) → IsPosition roster facts p ↔ IsPosition roster same p
  pub linked : (k n : ℕ) → IsLinked facts k n ↔ IsLinked same k n
  pub pages : (k page q : ℕ) (image : List ℕ) → IsPageAt facts k page q image ↔ IsPageAt same k page q image
  pub meanings : (roster : ℕ) (m : Meaning) → IsMeaning roster facts m ↔ IsMeaning roster same m

abbrev pub OnlyMembersCount : Type 0
OnlyMembersCount = (facts same : List Fact) → SameSet facts same → AgreeOn facts same

-- Parts of one meaning have one position and the same pages.
abbrev pub OneAnswer : Type 0
OneAnswer =
    (roster : ℕ) (log part other : List Fact) (m : Meaning) (p q : Position)
    → IsSound roster log → IsPart part log → IsPart other log
    → IsMeaning roster part m → IsMeaning roster other m → IsPosition roster part p → IsPosition roster other q
    → (p ≡ q) × ((page point : ℕ) (image : List ℕ) → IsPageAt part p.epoch page point image ↔ IsPageAt other q.epoch page point image)

-- A log has at most one first fault.
abbrev pub OneFault : Type 0
OneFault =
    (roster : ℕ) (log : List Fact) (place other : ℕ) (law another : Law)
    → IsFirstFault roster log place law → IsFirstFault roster log other another → (place ≡ other) × (law ≡ another)

-- A sound log has no fault.
abbrev pub NoFault : Type 0
NoFault = (roster : ℕ) (log : List Fact) (place : ℕ) (law : Law) → IsSound roster log → IsFirstFault roster log place law → ⊥
