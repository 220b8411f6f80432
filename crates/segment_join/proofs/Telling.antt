-- What a segment exports, and what of a state that takes it.
use Rattle.std.proofs.Common.{ℕ, List, rules}
use Rattle.redo_core.specs.Data.{RecordData}
use Rattle.redo_core.specs.Order.{Lists, RecordBefore}
use Rattle.segment_theorems.specs.State.{State}
use Rattle.segment_theorems.specs.HasMeaning.{HasAnchor, IsKeptBy}
use Rattle.segment_core.specs.declared.answers.Refusal.{Refusal}
use Rattle.segment_core.specs.Exported.{AreExported, exported_facts}
use Rattle.segment_core.specs.InOrder.{TakesEach, RefusesOne}
use Rattle.segment_join.specs.Knowing.{TakesAll, RefusesAll}

module _ (other : State) (anchor : ℕ) (kept : List RecordData) (above : HasAnchor other anchor) (lists : Lists RecordBefore (IsKeptBy other anchor) kept) where
  told : AreExported other (exported_facts other.book kept)
  told = search rules

  pub takes_all : (s t : State) → TakesEach s (exported_facts other.book kept) t → TakesAll s other t
  takes_all s t takes = record { facts = exported_facts other.book kept; told = told; takes = takes }

  pub refuses_all : (s : State) (why : Refusal) → RefusesOne s (exported_facts other.book kept) why → RefusesAll s other why
  refuses_all s why refused = (exported_facts other.book kept, told, refused)
