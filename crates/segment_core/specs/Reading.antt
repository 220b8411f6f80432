-- What a front and a read return for the facts that a segment means.
use Rattle.std.specs.Prelude.{◌≡◌, ℕ, ◌<◌, ◌≤◌, ◌↔◌, List, Result, Ok, Err}
use Rattle.redo_core.specs.Position.{Position}
use Rattle.redo_core.specs.Answer.{IsReadAnswer}
use Rattle.redo_core.specs.Answer.ReadAnswer.{Image as OfImage, Below as OfBelow, Above as OfAbove}
use Rattle.redo_core.specs.declared.facts.Fact.{Fact}
use Rattle.segment_theorems.specs.State.{State, min_of}
use Rattle.segment_theorems.specs.HasMeaning.{HasComplete}
use Rattle.segment_core.specs.declared.answers.Front.{Front}
use Rattle.segment_core.specs.declared.answers.ReadFault.{ReadFault}
use Rattle.segment_core.specs.declared.answers.ReadFault.TheVariants.{Below, Above, BrokenBlockChain, Memory}

-- the front of facts at the position p
pub record IsFrontAt (p : Position) (front : Front) : Type 0 where
  pub epoch : front.epoch ≡ p.epoch
  pub complete : front.complete ≡ p.complete
  pub min : front.min ≡ p.min

-- the front that the state returns by itself, for arbitrary facts
pub record IsFrontOf (s : State) (front : Front) : Type 0 where
  pub epoch : front.epoch ≡ s.book.complete
  pub complete : HasComplete s front.complete
  pub min : front.min ≡ min_of s

-- Below or Above, as the facts have it; a sound log breaks no block chain
abbrev pub IsReadFault : List Fact → Position → ℕ → ℕ → ReadFault → Type 0
IsReadFault facts p page q (Below min) = IsReadAnswer facts p page q (OfBelow min)
IsReadFault facts p page q (Above complete) = IsReadAnswer facts p page q (OfAbove complete)
IsReadFault facts p page q (BrokenBlockChain g number) = ⊥
IsReadFault facts p page q Memory = Unit {0}

-- what a read of a page at q returns
abbrev pub IsReadResult : List Fact → Position → ℕ → ℕ → Result (List ℕ) ReadFault → Type 0
IsReadResult facts p page q (Ok image) = IsReadAnswer facts p page q (OfImage image)
IsReadResult facts p page q (Err fault) = IsReadFault facts p page q fault

-- Below and Above are returned exactly where the state's own minimum and complete point have the point outside, for arbitrary facts
abbrev pub ReportsOutside : State → ℕ → Result (List ℕ) ReadFault → Type 0
ReportsOutside s q result =
    (complete n : ℕ) → HasComplete s complete
    → ((result ≡ Err (Below n)) ↔ ((n ≡ min_of s) × (q < min_of s)))
    × ((result ≡ Err (Above n)) ↔ ((n ≡ complete) × (min_of s ≤ q) × (complete < q)))
