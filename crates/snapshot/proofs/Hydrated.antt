-- What is put together from all pieces of one snapshot of a state is what that state means, made from scratch.
use Rattle.std.proofs.Common.{◌≡◌, ◌≢◌, ℕ, ◌≤◌, ⊎_elim, List, refl, sym, ◌∙◌, subst, arith}
use Rattle.redo_core.specs.Sets.{cuts}
use Rattle.redo_core.specs.Meaning.{ImageData}
use Rattle.redo_core.specs.Writing.{zeros}
use Rattle.redo_core.specs.Position.{Position}
use Rattle.redo_core.specs.declared.facts.Fact.{Fact}
use Rattle.log_theorems.proofs.Log.{IsLog}
use Rattle.log_theorems.proofs.Views.{anchor_is}
use Rattle.log_theorems.proofs.Meanings.{page_exists, list_eq}
use Rattle.messages.specs.declared.pieces.PieceContent.TheVariants.{Head}
use Rattle.segment_theorems.specs.State.{State, image_of}
use Rattle.segment_theorems.specs.Shows.{Shows}
use Rattle.segment_theorems.specs.Means.{MeansAt}
use Rattle.segment_theorems.specs.HasMeaning.{HasAnchor, IsKeptBy}
use Rattle.segment_theorems.specs.Restoring.{Restores}
use Rattle.segment_theorems.proofs.Reading.{pages_law}
use Rattle.segment_theorems.proofs.Same.{anchor_as}
use Rattle.snapshot.specs.Snapshots.{SnapshotData, IsContentAt}
use Rattle.snapshot.specs.Stagings.{StagingData}
use Rattle.snapshot.specs.Hydrating.{Hydrates, IsBrought, BringsPage, IsOfState}
use Rattle.snapshot.proofs.AllPieces.{HasAll, brings_records, brings_pages}
use Rattle.redo_core.proofs.CompleteEpochs.{has_cuts}

-- a state of a log shows each page at its anchor
shown_at : {roster : ℕ} (log F : List Fact) (p : Position) (s : State) (anchor page : ℕ) → IsLog roster log → MeansAt roster log F p s → HasAnchor s anchor
    → (bytes : List ℕ) × Shows s page anchor bytes
shown_at log F p s anchor page l m has =
    let same : anchor ≡ p.anchor = anchor_as log F p s l m anchor has in
    let le : p.anchor ≤ p.complete = m.position.complete.1 p.anchor (anchor_is F p m.position).0 in
    let e = page_exists log F l m.part p.epoch (has_cuts (cuts F) p.epoch m.position.epoch) page p.anchor in
    (e.0, subst (λ n. Shows s page n e.0) (sym same) ((pages_law log F p s page p.anchor e.0 l m (omega arith) le).1 e.1))

module _ {roster : ℕ} (log F : List Fact) (p : Position) (s : State) (d : SnapshotData) (st : StagingData) (l : IsLog roster log)
    (m : MeansAt roster log F p s) (of : IsOfState s d st) (all : HasAll d st) where
  -- a page that no piece contains is shown as zeros
  zeros_shown : (page : ℕ) → ((i : ImageData) → BringsPage st i → i.page ≢ page) → Shows s page d.anchor zeros
  zeros_shown page none =
      let shown = shown_at log F p s d.anchor page l m of.frozen.anchor in
      let i : ImageData = record { page = page; bytes = shown.0 } in
      ⊎_elim
      (λ (e : shown.0 ≡ zeros). subst (Shows s page d.anchor) e shown.1)
      (λ (no : shown.0 ≡ zeros → ⊥). absurd (none i ((brings_pages d st all i).1 ((of.frozen.pages.members i).1 (shown.1, no))) refl))
      (list_eq shown.0 zeros)

  image_shown : (page : ℕ) (bytes : List ℕ) → IsBrought st page bytes → Shows s page d.anchor bytes
  image_shown page bytes brought =
      ⊎_elim
      (λ (h : (i : ImageData) × BringsPage st i × (i.page ≡ page) × (i.bytes ≡ bytes)).
      subst (λ g. Shows s g d.anchor bytes) h.2 (subst (Shows s h.0.page d.anchor) h.3
      ((of.frozen.pages.members h.0).0 ((brings_pages d st all h.0).0 h.1)).0))
      (λ (h : ((i : ImageData) → BringsPage st i → i.page ≢ page) × (bytes ≡ zeros)). subst (Shows s page d.anchor) (sym h.1) (zeros_shown page h.0))
      brought

  pub restores : (new : State) → Hydrates st new → Restores s new
  restores new made =
      let h = made.head in
      let at : IsContentAt d 0 (Head new.book new.base) = subst (IsContentAt d 0) h.2 (all.content 0 h.0 h.1) in
      let base : d.anchor ≡ new.base = sym at.2 in
      record {
        book = at.1 ∙ of.frozen.book;
        base = subst (HasAnchor s) base of.frozen.anchor;
        versions = made.versions;
        images = λ page. subst (λ n. Shows s page n (image_of new.store page)) base (image_shown page (image_of new.store page) (made.images page));
        held = λ r. (
          λ x. subst (λ n. IsKeptBy s n r) base ((of.frozen.records.members r).0 ((brings_records d st all r).0 ((made.held r).0 x))),
          λ x. (made.held r).1 ((brings_records d st all r).1 ((of.frozen.records.members r).1 (subst (λ n. IsKeptBy s n r) (sym base) x))),
        );
      }
