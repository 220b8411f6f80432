-- What a read returns: a page at an admissible point, or why the point is not admissible.
use Rattle.std.specs.Prelude.{◌≡◌, ℕ, ◌<◌, ◌≤◌, List}
use Rattle.redo_core.specs.Position.{Position}
use Rattle.redo_core.specs.PageAt.{IsPageAt}
use Rattle.redo_core.specs.declared.facts.Fact.{Fact}

-- q is between the minimum read point and the complete point
abbrev pub IsAdmissible : Position → ℕ → Type 0
IsAdmissible p q = (p.min ≤ q) × (q ≤ p.complete)

pub data ReadAnswer : Type 0 where
  Image : List ℕ → ReadAnswer
  Below : ℕ → ReadAnswer
  Above : ℕ → ReadAnswer

-- the result of a read of page g at q: below is tested first
abbrev pub IsReadAnswer : List Fact → Position → ℕ → ℕ → ReadAnswer → Type 0
IsReadAnswer facts p g q (Below min) = (min ≡ p.min) × (q < p.min)
IsReadAnswer facts p g q (Above complete) = (complete ≡ p.complete) × (p.min ≤ q) × (p.complete < q)
IsReadAnswer facts p g q (Image image) = IsAdmissible p q × IsPageAt facts p.epoch g q image
