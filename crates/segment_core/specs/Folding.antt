-- A page folded to the anchor, and its commit.
use Rattle.std.specs.Prelude.{◌≡◌, ℕ, ◌<◌, ◌≤◌, List, Result, Ok, Err, IsErrAnd}
use Rattle.redo_core.specs.Position.{Position}
use Rattle.redo_core.specs.PageAt.{IsPageAt}
use Rattle.redo_core.specs.declared.facts.Fact.{Fact}
use Rattle.redo_core.specs.declared.refusal.Refused.{Refused}
use Rattle.segment_theorems.specs.State.{State, version_of}
use Rattle.segment_theorems.specs.Shows.{Shows}
use Rattle.page_base.specs.Raising.{Raises}
use Rattle.segment_theorems.specs.Shedding.{CommitsImage}
use Rattle.segment_theorems.specs.HasMeaning.{HasAnchor}
use Rattle.segment_core.specs.BlockChain.{BreaksAt}
use Rattle.segment_core.specs.declared.answers.ReadFault.{ReadFault}
use Rattle.segment_core.specs.declared.answers.ReadFault.TheVariants.{BrokenBlockChain, Memory}
use Rattle.segment_core.specs.declared.fold_plan.Folded.{Folded}
use Rattle.segment_core.specs.declared.fold_plan.CommitFault.{CommitFault}
use Rattle.segment_core.specs.declared.fold_plan.CommitFault.TheVariants as commit

-- the page of the facts at their anchor
pub record IsFoldOf (facts : List Fact) (p : Position) (page : ℕ) (folded : Folded) : Type 0 where
  pub page_is : folded.page ≡ page
  pub version_is : folded.version ≡ p.anchor
  pub image_is : IsPageAt facts p.epoch page p.anchor folded.image

-- what a plan returns for the facts that the segment means: only memory can run out
abbrev pub IsPlanResult : List Fact → Position → ℕ → Result Folded ReadFault → Type 0
IsPlanResult facts p page (Ok folded) = IsFoldOf facts p page folded
IsPlanResult facts p page (Err fault) = fault ≡ Memory

-- the page that the state itself shows at its anchor, for arbitrary facts
pub record FoldsPage (s : State) (page : ℕ) (folded : Folded) : Type 0 where
  pub page_is : folded.page ≡ page
  pub version_is : HasAnchor s folded.version
  pub image_is : Shows s page folded.version folded.image

-- the block chain of a page is broken at the record n at or below the anchor
abbrev pub BreaksBelowAnchor : State → ℕ → ℕ → Type 0
BreaksBelowAnchor s page n = (anchor : ℕ) × HasAnchor s anchor × BreaksAt s page anchor n

-- a plan is made of the page at the anchor, exactly where its block chain is whole there and memory does not run out
abbrev pub PlansFold : State → ℕ → Result Folded ReadFault → Type 0
PlansFold s page (Ok folded) = FoldsPage s page folded × ((n : ℕ) → BreaksBelowAnchor s page n → ⊥)
PlansFold s page (Err (BrokenBlockChain g n)) = (g ≡ page) × BreaksBelowAnchor s page n
PlansFold s page (Err Memory) = (n : ℕ) → BreaksBelowAnchor s page n → ⊥
PlansFold s page (Err fault) = ⊥

-- a page takes the image where its version is above the page's own, and no other image is stored; else nothing changes
pub record Commits (old : State) (folded : Folded) (new : State) : Type 0 where
  pub older : folded.version ≤ version_of old.store folded.page → new ≡ old
  pub images : Raises old.store folded.page folded.version folded.image new.store
  pub newer : version_of old.store folded.page < folded.version → CommitsImage old folded.page folded.version folded.image new

-- why a fold is not committed: its version is above the anchor, or it is above the page's own and memory runs out
abbrev pub RefusesCommit : State → Folded → CommitFault → Type 0
RefusesCommit old folded (commit.Ahead version anchor) = (version ≡ folded.version) × (anchor < version) × HasAnchor old anchor
RefusesCommit old folded commit.Memory = version_of old.store folded.page < folded.version

-- a version above the anchor is refused as such
abbrev pub RefusesAhead : State → Folded → Result Unit (Refused Folded CommitFault) → Type 0
RefusesAhead old folded result =
    (anchor : ℕ) → HasAnchor old anchor → anchor < folded.version
    → IsErrAnd result (λ e. e.fault ≡ commit.Ahead folded.version anchor)
