-- Whether two states show the same of their pages.
use Rattle.std.proofs.Common.{◌≡◌, ℕ, ◌⊎◌, ⊎_elim, List, ◌++◌, get_or, Bool, refl, sym, ◌∙◌, subst, rules}
use Rattle.std.specs.List.{Contains, All}
use Rattle.redo_core.specs.Data.{RecordData}
use Rattle.log_theorems.proofs.Deciding.{settled_eq, some_or_none}
use Rattle.segment_theorems.specs.State.{State, StoredImage}
use Rattle.segment_theorems.specs.Shows.{Shows}
use Rattle.segment_core.specs.Form.{IsSegment}
use Rattle.segment_core.specs.Comparing.{ReportsSamePage}
use Rattle.segment_join.specs.Sameness.{ShowOne, ReportsPages, IsUnwritten}
use Rattle.segment_core.proofs.BarePages.{shows_some, IsBare, bare_is_zeros, bare_or_not}

-- a property of pages that holds of those with an image or a stored record
pub record HoldsOfStored (s : State) (P : ℕ → Type 0) : Type 0 where
  pub images : All (λ (i : StoredImage). P i.page) s.store.images
  pub written : (r : RecordData) → Contains s.held r → P r.page

pub stored_or_bare : (s : State) (P : ℕ → Type 0) (page : ℕ) → HoldsOfStored s P → IsBare s page ⊎ P page
stored_or_bare s P page holds = search (rules, bare_or_not)

-- what holds of the pages that are written and of those that are not, holds of each page with an image
pub stored_of_both : (s t : State) (P : ℕ → Type 0) (images : List StoredImage) → All (λ (i : StoredImage). IsUnwritten s t i.page → P i.page) images
    → ((r : RecordData) → Contains (s.held ++ t.held) r → P r.page) → All (λ (i : StoredImage). P i.page) images
stored_of_both s t P images unwritten written k d lt =
    let i = get_or images k d in
    ⊎_elim
    (λ (redo : (r : RecordData) × Contains (s.held ++ t.held) r × (r.page ≡ i.page)). subst P redo.2 (written redo.0 redo.1))
    (λ (none : (r : RecordData) → Contains (s.held ++ t.held) r → r.page ≡ i.page → ⊥). unwritten k d lt none)
    (some_or_none (λ (r : RecordData). r.page ≡ i.page) (λ r. settled_eq r.page i.page) (s.held ++ t.held))

-- where the stored pages of both states are the same, all are
pub all_pages : (s : State) (point : ℕ) (t : State) (other : ℕ) → IsSegment s → IsSegment t
    → HoldsOfStored s (ShowOne s point t other) → HoldsOfStored t (ShowOne s point t other) → (page : ℕ) → ShowOne s point t other page
all_pages s point t other form other_form own others page =
    let P : ℕ → Type 0 = ShowOne s point t other in
    ⊎_elim
    (λ (bare : IsBare s page). ⊎_elim
    (λ (other_bare : IsBare t page).
    let one = shows_some s page point form in
    let two = shows_some t page other other_form in
    let same : two.0 ≡ one.0 = bare_is_zeros t page other two.0 other_form other_bare two.1 ∙ sym (bare_is_zeros s page point one.0 form bare one.1) in
    (one.0, one.1, subst (Shows t page other) same two.1))
    (λ (shown : P page). shown)
    (stored_or_bare t P page others))
    (λ (shown : P page). shown)
    (stored_or_bare s P page own)

-- a comparison of what is shown decides whether the two show the same
pub tells_page : (s : State) (point : ℕ) (t : State) (other page : ℕ) (same : Bool) → IsSegment s → IsSegment t
    → ReportsSamePage s point t other page same → ReportsPages s point t other (λ P. P page) same
tells_page s point t other page same form other_form tells =
    let one = shows_some s page point form in
    let two = shows_some t page other other_form in (
      λ h. (one.0, one.1, subst (Shows t page other) (sym ((tells one.0 two.0 one.1 two.1).0 h)) two.1),
      λ shown. (tells shown.0 shown.0 shown.1 shown.2).1 refl,
    )
