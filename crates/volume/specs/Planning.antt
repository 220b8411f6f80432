-- The truncation that an opening has accepted and taken next.
use Rattle.std.specs.Prelude.{◌≡◌, ◌≢◌, ℕ, ◌+◌, ◌⊎◌, List, true, false, Option, Some, None, Result, Ok, Err}
use Rattle.redo_core.specs.Data.{CutData, cut_of}
use Rattle.redo_core.specs.Shape.{cut_fault}
use Rattle.redo_core.specs.declared.shapes.ShapeFault.{ShapeFault}
use Rattle.segment_theorems.specs.State.{State}
use Rattle.segment_theorems.specs.Shows.{Shows}
use Rattle.segment_core.specs.BlockChain.{ReportsBreak}
use Rattle.segment_core.specs.Reading.{IsFrontOf, ReportsOutside}
use Rattle.segment_core.specs.declared.answers.ReadFault.{ReadFault}
use Rattle.segment_core.specs.declared.answers.ReadFault.TheVariants.{Memory}
use Rattle.segment_core.specs.declared.answers.Front.{Front}
use Rattle.guard.specs.declared.requests.AcceptedCut.{AcceptedCut}
use Rattle.volume.specs.declared.actions.Fault.{Fault}
use Rattle.volume.specs.declared.actions.Fault.TheVariants.{Full, Damaged}
use Rattle.volume.specs.declared.plans.CutPlan.{CutPlan}
use Rattle.redo_writer.specs.Layout.{number_of}

-- the greatest accepted truncation of the quorum is of the epoch after the union's
abbrev pub IsPending : Option AcceptedCut → ℕ → CutData → Type 0
IsPending None epoch cut = ⊥
IsPending (Some pair) epoch cut = (pair.cut ≡ cut) × (cut.epoch ≡ epoch + 1)

-- the number of the last record of page 0 up to the complete point
abbrev pub IsCommitPoint : State → ℕ → ℕ → Type 0
IsCommitPoint union complete point = (image : List ℕ) × Shows union 0 complete image × (point ≡ number_of image)

-- a truncation of the next epoch from the last commit point; its numbers are above the complete point
pub record IsOwnCut (union : State) (cut : CutData) : Type 0 where
  pub front : Front
  pub own : IsFrontOf union front
  pub epoch : cut.epoch ≡ front.epoch + 1
  pub lo : IsCommitPoint union front.complete cut.lo
  pub hi : cut.hi ≡ front.complete

-- what is pending comes first
abbrev pub IsPlan : State → Option AcceptedCut → CutPlan → Type 0
IsPlan union pair plan =
    ((plan.is_pending ≡ true) × IsPending pair union.book.complete plan.cut)
    ⊎ ((plan.is_pending ≡ false) × ((cut : CutData) → IsPending pair union.book.complete cut → ⊥) × IsOwnCut union plan.cut)

-- a read of the page at the point is refused, and not for lack of memory
abbrev pub RefusesRead : State → ℕ → ℕ → Type 0
RefusesRead union page point =
    (why : ReadFault) × ReportsOutside union point (Err why) × ReportsBreak union page point (Err why) × (why ≢ Memory)

-- no epoch is left, or there is no truncation of this shape
abbrev pub IsUnfit : ℕ → ℕ → ℕ → Fault → Type 0
IsUnfit epoch lo complete fault =
    ((epoch ≡ 65535) × (fault ≡ Full))
    ⊎ ((why : ShapeFault) × (cut_fault (cut_of (epoch + 1) lo complete) ≡ Some why) × (fault ≡ Damaged))

-- why nothing is planned: the union does not show page 0 at its complete point, or the truncation from the commit point there is unfit
abbrev pub IsPlanFault : State → Fault → Type 0
IsPlanFault union fault =
    (front : Front) × IsFrontOf union front
    × ((RefusesRead union 0 front.complete × (fault ≡ Damaged))
    ⊎ ((lo : ℕ) × IsCommitPoint union front.complete lo × IsUnfit front.epoch lo front.complete fault))

-- the commit point, where the union shows page 0 at its complete point
abbrev pub FindsPoint : State → ℕ → Result ℕ Fault → Type 0
FindsPoint union complete (Ok point) = IsCommitPoint union complete point
FindsPoint union complete (Err fault) = RefusesRead union 0 complete × (fault ≡ Damaged)

-- the truncation of the epoch after this one
abbrev pub IsOwnPlan : ℕ → ℕ → ℕ → Result CutPlan Fault → Type 0
IsOwnPlan epoch lo complete (Ok plan) = (plan.is_pending ≡ false) × (plan.cut ≡ cut_of (epoch + 1) lo complete)
IsOwnPlan epoch lo complete (Err fault) = IsUnfit epoch lo complete fault

abbrev pub MakesPlan : State → Option AcceptedCut → Result CutPlan Fault → Type 0
MakesPlan union pair (Ok plan) = IsPlan union pair plan
MakesPlan union pair (Err fault) = IsPlanFault union fault
