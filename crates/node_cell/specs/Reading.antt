-- What a read of a node answers.
use Rattle.std.specs.Prelude.{◌≡◌, ℕ, List, [], ◌∷◌, Option, Result, Ok, Err}
use Rattle.redo_core.specs.Sets.{IsPart}
use Rattle.redo_core.specs.Position.{Position, IsPosition}
use Rattle.redo_core.specs.Answer.{IsReadAnswer}
use Rattle.redo_core.specs.Answer.ReadAnswer.{Image as OfImage}
use Rattle.redo_core.specs.declared.facts.Fact.{Fact}
use Rattle.segment_core.specs.Reading.{IsReadFault}
use Rattle.segment_core.specs.declared.answers.ReadFault.{ReadFault}
use Rattle.segment_theorems.specs.State.{State}
use Rattle.node_lock.specs.Trail.{Entry}
use Rattle.node_cell.specs.Kept.{HasPlaces, MeansTrail}
use Rattle.node_cell.specs.Receipt.{ReceiptData}
use Rattle.node_cell.specs.Settling.{IsForeignReceipt, Stands}
use Rattle.node_cell.specs.declared.answers.ReadAfterFault.{ReadAfterFault}
use Rattle.node_cell.specs.declared.answers.ReadAfterFault.TheVariants.{Stranger, Read}
use Rattle.node_cell.specs.View.{ViewData}

-- the page of the facts at an admissible point, in the view of their complete epoch; or why the point is not admissible for them
abbrev pub IsViewResult : List Fact → Position → ℕ → ℕ → Result ViewData ReadFault → Type 0
IsViewResult facts p page q (Ok view) = (view.epoch ≡ p.epoch) × (view.page ≡ page) × (view.point ≡ q) × IsReadAnswer facts p page q (OfImage view.image)
IsViewResult facts p page q (Err fault) = IsReadFault facts p page q fault

-- the answer is that of one part of the log, which has the fact of each of these entries or receipts
pub record ReportsRead (roster : ℕ) (log : List Fact) (places : List (ℕ × ℕ)) (page q : ℕ) (result : Result ViewData ReadFault) : Type 0 where
  pub facts : List Fact
  pub p : Position
  pub part : IsPart facts log
  pub position : IsPosition roster facts p
  pub has : HasPlaces log facts places
  pub answer : IsViewResult facts p page q result

-- in the trail of a state that the lock may keep, the receipt's place has no entry of its place in the log
pub record IsStrangerThere (roster : ℕ) (log : List Fact) (r : ReceiptData) (found : Option ℕ) : Type 0 where
  pub segment : State
  pub trail : List Entry
  pub kept : MeansTrail roster log segment trail
  pub stranger : IsForeignReceipt trail r found

-- the receipt's entry is in the trail, unless the answer is a stranger, with what is at its place
abbrev pub FindsReceipt : List Entry → ReceiptData → Result ViewData ReadAfterFault → Type 0
FindsReceipt trail r (Ok view) = Stands trail r
FindsReceipt trail r (Err (Read fault)) = Stands trail r
FindsReceipt trail r (Err (Stranger s)) = IsForeignReceipt trail r s.found

-- the answer is that of one part of the log, which has the receipt's fact; or the receipt is not of this node
abbrev pub ReportsReadAfter : ℕ → List Fact → ReceiptData → ℕ → ℕ → Result ViewData ReadAfterFault → Type 0
ReportsReadAfter roster log r page q (Ok view) = ReportsRead roster log ((r.place, r.log_place) ∷ []) page q (Ok view)
ReportsReadAfter roster log r page q (Err (Read fault)) = ReportsRead roster log ((r.place, r.log_place) ∷ []) page q (Err fault)
ReportsReadAfter roster log r page q (Err (Stranger s)) = IsStrangerThere roster log r s.found
