-- What a raise of an image is for a state, and what a segment has dropped.
use Rattle.std.specs.Prelude.{◌≡◌, ℕ, ◌<◌, ◌≤◌, List}
use Rattle.std.specs.List.{Contains}
use Rattle.redo_core.specs.Data.{RecordData}
use Rattle.redo_core.specs.Standing.{IsAlive}
use Rattle.page_base.specs.Raising.{Raises}
use Rattle.segment_theorems.specs.State.{State, version_of}
use Rattle.segment_theorems.specs.Shedding.{CommitsImage}
use Rattle.segment_theorems.specs.HasMeaning.{HasAnchor}
use Rattle.segment_core.specs.declared.fold_plan.Folded.{Folded}
use Rattle.segment_core.specs.Folding.{Commits}
use Rattle.segment_core.specs.Forgetting.{DiscardsJust}

-- A raise to a version above the page's own commits the image.
abbrev pub RaiseCommits : Type 0
RaiseCommits =
    (old new : State) (page version : ℕ) (image : List ℕ)
    → new.book ≡ old.book → new.held ≡ old.held → new.base ≡ old.base → version_of old.store page < version
    → Raises old.store page version image new.store → CommitsImage old page version image new

-- After a commit up to the anchor and then a discard, no alive record of that page at or below the committed version is stored.
abbrev pub FoldedIsForgotten : Type 0
FoldedIsForgotten =
    (anchor : ℕ) (old committed new : State) (folded : Folded) (r : RecordData)
    → HasAnchor old anchor → folded.version ≤ anchor → Commits old folded committed → DiscardsJust committed new
    → Contains new.held r → r.page ≡ folded.page → r.number ≤ folded.version → IsAlive new.book.cuts new.book.complete r.epoch r.number → ⊥
