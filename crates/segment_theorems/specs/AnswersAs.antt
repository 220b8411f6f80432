-- A state gives the results of the facts that it means.
use Rattle.std.specs.Prelude.{ℕ, ◌↔◌, List}
use Rattle.redo_core.specs.Sets.{IsPart}
use Rattle.redo_core.specs.Position.{Position, IsPosition}
use Rattle.redo_core.specs.PageAt.{IsPageAt}
use Rattle.redo_core.specs.Answer.{IsAdmissible}
use Rattle.redo_core.specs.Meaning.{Meaning, IsMeaning}
use Rattle.redo_core.specs.Sound.{IsSound}
use Rattle.redo_core.specs.declared.facts.Fact.{Fact}
use Rattle.segment_theorems.specs.State.{State}
use Rattle.segment_theorems.specs.Means.{Means}
use Rattle.segment_theorems.specs.Shows.{Shows}
use Rattle.segment_theorems.specs.HasMeaning.{HasPosition, HasMeaning}

-- The state has the position of facts of the log, yields their page at each admissible point, and has their meaning.
pub record AnswersAs (roster : ℕ) (log facts : List Fact) (s : State) : Type 0 where
  pub part : IsPart facts log
  pub p : Position
  pub position : IsPosition roster facts p
  pub stands : HasPosition s p
  pub pages : (page q : ℕ) (image : List ℕ) → IsAdmissible p q → Shows s page q image ↔ IsPageAt facts p.epoch page q image
  pub meaning : (m : Meaning) → HasMeaning s m ↔ IsMeaning roster facts m

abbrev pub StatesAnswer : Type 0
StatesAnswer = (roster : ℕ) (log facts : List Fact) (s : State) → IsSound roster log → Means roster log facts s → AnswersAs roster log facts s
