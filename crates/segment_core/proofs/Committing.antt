-- What a commit of a folded page does, from what its store's raise does.
use Rattle.std.proofs.Common.{◌≡◌, ℕ, ◌<◌, ◌≤◌, ◌⊎◌, ⊎_elim, sym, subst, arith, Result, Ok, Err, OnOk, IfErr, rules}
use Rattle.redo_core.specs.declared.refusal.Refused.{Refused}
use Rattle.page_base.specs.Raising.{Raises}
use Rattle.segment_theorems.specs.State.{State, Store, version_of}
use Rattle.segment_theorems.specs.Means.{Means}
use Rattle.segment_theorems.specs.HasMeaning.{HasAnchor}
use Rattle.segment_theorems.specs.Promises.{KeepsMeaningWith}
use Rattle.segment_theorems.proofs.Shed.{commit_keeps}
use Rattle.segment_core.specs.Folding.{Commits, RefusesAhead}
use Rattle.segment_core.specs.Forgetting.{with_store}
use Rattle.segment_core.specs.declared.fold_plan.Folded.{Folded}
use Rattle.segment_core.specs.declared.fold_plan.CommitFault.{CommitFault}
use Rattle.segment_core.specs.declared.fold_plan.CommitFault.TheVariants.{Memory}
use Rattle.segment_core.proofs.OneView.{one_anchor}

pub commits_of : (s : State) (old new : Store) (folded : Folded) → Raises old folded.page folded.version folded.image new
    → Commits (with_store s old) folded (with_store s new)
commits_of s old new folded raises = search rules

-- a version that is not above the anchor keeps the meaning
pub commits_keeps : (old new : State) (folded : Folded) (anchor : ℕ) → HasAnchor old anchor
    → folded.version ≤ anchor → Commits old folded new → KeepsMeaningWith old folded.page folded.version folded.image new
commits_keeps old new folded anchor own le commits roster log F sound final a =
    ⊎_elim
    (λ (low : folded.version ≤ version_of old.store folded.page). subst (Means roster log F) (sym (commits.older low)) a)
    (λ (high : version_of old.store folded.page < folded.version). commit_keeps old new anchor folded.page folded.version folded.image own le
    (commits.newer high) roster log F sound final a)
    (let t : (folded.version ≤ version_of old.store folded.page) ⊎ (version_of old.store folded.page < folded.version) = grind arith in t)

pub not_ahead : (s : State) (folded : Folded) (anchor : ℕ) (result : Result Unit (Refused Folded CommitFault))
    → HasAnchor s anchor → folded.version ≤ anchor → RefusesAhead s folded result
not_ahead s folded anchor result own le other has above = let e : anchor ≡ other = one_anchor s anchor other own has in absurd (omega arith)

pub raise_keeps : (s : State) (old new : Store) (folded : Folded) (anchor : ℕ) (result : Result Unit (Refused Folded CommitFault))
    → HasAnchor s anchor → folded.version ≤ anchor
    → OnOk result (Raises old folded.page folded.version folded.image new)
    → OnOk result (KeepsMeaningWith (with_store s old) folded.page folded.version folded.image (with_store s new))
raise_keeps s old new folded anchor (Ok u) own le raises = commits_keeps (with_store s old) (with_store s new) folded anchor own le
    (commits_of s old new folded raises)
raise_keeps s old new folded anchor (Err e) own le raises = tt

pub raise_back : (old : Store) (folded : Folded) (result : Result Unit (Refused Folded CommitFault))
    → IfErr result (λ e. (e.value ≡ folded) × (e.fault ≡ Memory) × (version_of old folded.page < folded.version))
    → IfErr result (λ e. e.value ≡ folded)
raise_back old folded result refused = search rules
