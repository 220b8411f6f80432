-- What was folded and then discarded is dropped.
use Rattle.std.proofs.Common.{◌≡◌, ℕ, ◌≤◌, rules}
use Rattle.std.specs.List.{Contains}
use Rattle.redo_core.specs.Data.{RecordData}
use Rattle.redo_core.specs.Standing.{IsAlive}
use Rattle.segment_theorems.specs.State.{State}
use Rattle.segment_theorems.specs.HasMeaning.{HasAnchor}
use Rattle.segment_core.specs.Folding.{Commits}
use Rattle.segment_core.specs.Forgetting.{DiscardsJust}
use Rattle.segment_core.specs.declared.fold_plan.Folded.{Folded}

pub folded_is_forgotten : (anchor : ℕ) (old between new : State) (folded : Folded) (r : RecordData)
    → HasAnchor old anchor → folded.version ≤ anchor → Commits old folded between → DiscardsJust between new
    → Contains new.held r → r.page ≡ folded.page → r.number ≤ folded.version → IsAlive new.book.cuts new.book.complete r.epoch r.number → ⊥
folded_is_forgotten anchor old between new folded r has le commits discards h page low alive = search rules
