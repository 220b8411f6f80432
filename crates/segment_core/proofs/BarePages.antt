-- What states show of their pages: each something, and zeros where nothing is stored.
use Rattle.std.proofs.Common.{◌≡◌, ℕ, ◌⊎◌, inl, inr, ⊎_elim, List, [], ◌∷◌, refl, ◌∙◌}
use Rattle.std.specs.List.{Contains}
use Rattle.redo_core.specs.Data.{RecordData}
use Rattle.redo_core.specs.Order.{Lists, BeforeByNumber}
use Rattle.redo_core.specs.Writing.{zeros, after_records}
use Rattle.redo_core.proofs.Members.{here}
use Rattle.log_theorems.proofs.Deciding.{settled_eq, some_or_none}
use Rattle.log_theorems.proofs.Storing.{stored_images}
use Rattle.segment_theorems.specs.State.{State, StoredImage, image_of}
use Rattle.segment_theorems.specs.Shows.{IsApplied, Shows}
use Rattle.segment_core.proofs.Anew.{applied_in_order}
use Rattle.segment_core.specs.Form.{IsSegment}

-- a segment shows something of each page at each point
pub shows_some : (s : State) (page q : ℕ) → IsSegment s → (image : List ℕ) × Shows s page q image
shows_some s page q form =
    let w = applied_in_order s page q form.book form.held in
    (after_records (image_of s.store page) w.0, record { written = w.0; lists = w.1; result = refl })

-- no image of the page is stored, and no stored record writes it
pub record IsBare (s : State) (page : ℕ) : Type 0 where
  pub images : (i : StoredImage) → Contains s.store.images i → i.page ≡ page → ⊥
  pub records : (r : RecordData) → Contains s.held r → r.page ≡ page → ⊥

-- such a page is zeros
pub bare_is_zeros : (s : State) (page q : ℕ) (image : List ℕ) → IsSegment s → IsBare s page → Shows s page q image → image ≡ zeros
bare_is_zeros s page q image form bare shows = at shows.written shows.lists shows.result
  where
    at : (written : List RecordData) → Lists BeforeByNumber (IsApplied s page q) written
        → image ≡ after_records (image_of s.store page) written → image ≡ zeros
    at [] lists result = result ∙ ((stored_images s.store form.store.rising).1 page bare.images).1
    at (w ∷ ws) lists result = let held = (lists.members w).0 (here w ws) in absurd (bare.records w held.0 held.2)

-- a page of a state is bare, or has an image, or is written
pub bare_or_not : (s : State) (page : ℕ)
    → IsBare s page ⊎ (((i : StoredImage) × Contains s.store.images i × (i.page ≡ page)) ⊎ ((r : RecordData) × Contains s.held r × (r.page ≡ page)))
bare_or_not s page =
    ⊎_elim
    (λ (image : (i : StoredImage) × Contains s.store.images i × (i.page ≡ page)). inr (inl image))
    (λ (none : (i : StoredImage) → Contains s.store.images i → i.page ≡ page → ⊥). ⊎_elim
    (λ (redo : (r : RecordData) × Contains s.held r × (r.page ≡ page)). inr (inr redo))
    (λ (no : (r : RecordData) → Contains s.held r → r.page ≡ page → ⊥). inl (record { images = none; records = no }))
    (some_or_none (λ r. r.page ≡ page) (λ r. settled_eq r.page page) s.held))
    (some_or_none (λ i. i.page ≡ page) (λ i. settled_eq i.page page) s.store.images)
