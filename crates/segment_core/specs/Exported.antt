-- What one segment exports to another: facts, in the order in which they are taken.
use Rattle.std.specs.Prelude.{◌≡◌, ℕ, suc, ◌==◌, if◌then◌else◌, List, [], ◌∷◌, ◌++◌, map}
use Rattle.redo_core.specs.Data.{RecordData, advance_of}
use Rattle.redo_core.specs.Order.{Lists, RecordBefore}
use Rattle.redo_core.specs.Book.{BookData}
use Rattle.redo_core.specs.declared.facts.Fact.{Fact}
use Rattle.redo_core.specs.declared.facts.Fact.TheVariants.{Record, Cut, Advance}
use Rattle.segment_theorems.specs.State.{State}
use Rattle.segment_theorems.specs.HasMeaning.{HasAnchor, IsKeptBy}

-- each reader's point as an advance in an epoch, from a reader on; a reader at point 0 has none
abbrev pub point_facts : ℕ → ℕ → List ℕ → List Fact
point_facts epoch reader [] = []
point_facts epoch reader (point ∷ points) =
    if point == 0 then point_facts epoch (suc reader) points else (Advance (advance_of epoch reader point) ∷ point_facts epoch (suc reader) points)

-- the truncations, each reader's point in the complete epoch, and the waiting advances
abbrev pub book_facts : BookData → List Fact
book_facts b = map Cut b.cuts ++ (point_facts b.complete 1 b.points ++ map Advance b.waits)

-- the truncations, each reader's point in the complete epoch, the waiting advances, and the records that are kept
abbrev pub exported_facts : BookData → List RecordData → List Fact
exported_facts b kept = map Cut b.cuts ++ (point_facts b.complete 1 b.points ++ (map Advance b.waits ++ map Record kept))

-- the facts are those that the state exports, where the records are the kept ones, rising by key
pub record AreExported (s : State) (facts : List Fact) : Type 0 where
  pub anchor : ℕ
  pub kept : List RecordData
  pub anchor_is : HasAnchor s anchor
  pub kept_are : Lists RecordBefore (IsKeptBy s anchor) kept
  pub facts_are : facts ≡ exported_facts s.book kept
