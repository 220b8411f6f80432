-- A page that a node showed.
use Rattle.std.specs.Prelude.{◌≤◌, ℕ, List}
use Rattle.redo_core.specs.LogFront.{IsLogFront}
use Rattle.redo_core.specs.PageAt.{IsPageAt}
use Rattle.redo_core.specs.declared.facts.Fact.{Fact}

pub record ViewData : Type 0 where
  pub epoch : ℕ
  pub page : ℕ
  pub point : ℕ
  pub image : List ℕ

-- the log's own page g at q in view k, where q is at or below a front of that view
pub record IsLogPage (log : List Fact) (k g q : ℕ) (image : List ℕ) : Type 0 where
  pub number : ℕ
  pub front : IsLogFront log k number
  pub within : q ≤ number
  pub shown : IsPageAt log k g q image
