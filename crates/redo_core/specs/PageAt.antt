-- A page at a read point: the block chain replayed from zeros.
use Rattle.std.specs.Prelude.{◌≡◌, ℕ, ◌≤◌, List}
use Rattle.redo_core.specs.Data.{RecordData}
use Rattle.redo_core.specs.Order.{Lists, BeforeByNumber}
use Rattle.redo_core.specs.Writing.{after_records, zeros}
use Rattle.redo_core.specs.Linked.{IsLinkedRecord}
use Rattle.redo_core.specs.declared.facts.Fact.{Fact}

-- the image of page g at q in view k: zeros, and then the linked records of the page up to q, in rising order
pub record IsPageAt (facts : List Fact) (k g q : ℕ) (image : List ℕ) : Type 0 where
  pub written : List RecordData
  pub lists : Lists BeforeByNumber (λ r. IsLinkedRecord facts k r × (r.page ≡ g) × (r.number ≤ q)) written
  pub result : image ≡ after_records zeros written
