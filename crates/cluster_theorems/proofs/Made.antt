-- Snapshots of states that meant some facts, the pieces of such, and stagings of these.
use Rattle.std.proofs.Common.{◌≡◌, ◌≢◌, ℕ, ◌<◌, ◌⊎◌, inl, inr, ⊎_elim, List, [], refl, sym, ◌∙◌, subst, arith, Option, Some, None, rules}
use Rattle.std.specs.List.{Contains}
use Rattle.std.proofs.lemmas.Option.{same_Some}
use Rattle.redo_core.specs.Sets.{SameSet}
use Rattle.redo_core.specs.Sound.{IsSound}
use Rattle.redo_core.specs.declared.facts.Fact.{Fact}
use Rattle.log_theorems.proofs.Fronts.{same_sym}
use Rattle.messages.specs.Pieces.{PieceData}
use Rattle.messages.specs.declared.pieces.PieceContent.{PieceContent}
use Rattle.segment_theorems.specs.State.{State}
use Rattle.segment_theorems.specs.Means.{Means}
use Rattle.snapshot.specs.Snapshots.{SnapshotData, Freezes, IsContentAt, IsPieceOf}
use Rattle.snapshot.specs.Stagings.{StagingData, piece_at, IsStranger, IsStaging}
use Rattle.snapshot.specs.Placing.{IsComplete}
use Rattle.snapshot.specs.Hydrating.{Hydrates, IsOfState, IsOfSoundState}
use Rattle.replica.specs.Meaning.{BringsStaging}
use Rattle.cluster_theorems.proofs.Alike.{means_same, same_snapshots}
use Rattle.replica.proofs.Restarts.{same_or_not}

-- the snapshot is of a state that meant these facts of the log
pub record IsMade (roster : ℕ) (log facts : List Fact) (d : SnapshotData) : Type 0 where
  pub state : State
  pub freezes : Freezes state d
  pub means : Means roster log facts state

-- the piece is one of such a snapshot
abbrev pub IsTold : ℕ → List Fact → List Fact → PieceData → Type 0
IsTold roster log facts p = (d : SnapshotData) × IsMade roster log facts d × IsPieceOf d p

-- the snapshot that is kept, if there is one, is of the facts
abbrev pub KeepsMade : ℕ → List Fact → List Fact → Option SnapshotData → Type 0
KeepsMade roster log facts kept = (d : SnapshotData) → kept ≡ Some d → IsMade roster log facts d

-- each piece of the staging, if there is one, is of some of the staged facts
abbrev pub IsOfStaged : ℕ → List Fact → List (List Fact) → PieceData → Type 0
IsOfStaged roster log staged p = (facts : List Fact) × Contains staged facts × IsTold roster log facts p

abbrev pub KeepsStaged : ℕ → List Fact → List (List Fact) → Option StagingData → Type 0
KeepsStaged roster log staged kept =
    (st : StagingData) → kept ≡ Some st → (index : ℕ) (p : PieceData) → piece_at st index ≡ Some p → IsOfStaged roster log staged p

-- what such a staging brings, where its pieces are all of these facts
pub record IsOfFacts (roster : ℕ) (log facts : List Fact) (st : StagingData) : Type 0 where
  pub brings : (made : State) → Hydrates st made → BringsStaging roster log (Some st) facts
  pub whole : IsComplete st → IsOfSoundState st

-- ---- pieces of two snapshots that bring the same
content_too : (d e : SnapshotData) (index : ℕ) (content : PieceContent) → e.pages ≡ d.pages → e.records ≡ d.records → index ≢ 0
    → IsContentAt e index content → IsContentAt d index content
content_too d e index content pages records later is = search rules

-- what is not a stranger's is of the staging's name and total
pub own_piece : (st : StagingData) (p : PieceData) → (IsStranger st p → ⊥) → (p.name ≡ st.name) × (p.total ≡ st.total)
own_piece st p own = search rules

module _ (roster : ℕ) (log : List Fact) (staged : List (List Fact)) (st : StagingData) (facts : List Fact) (sound : IsSound roster log)
    (form : IsStaging st) (pieces : (index : ℕ) (p : PieceData) → piece_at st index ≡ Some p → IsOfStaged roster log staged p)
    (same : (given : List Fact) → Contains staged given → SameSet given facts) where
  -- the pieces are all of the head's snapshot
  of_first : (first : PieceData) (head : piece_at st 0 ≡ Some first) (index : ℕ) (p : PieceData) → piece_at st index ≡ Some p
      → IsPieceOf (pieces 0 first head).2.0 p
  of_first first head index p there =
      let one = pieces 0 first head in
      let other = pieces index p there in
      ⊎_elim
      (λ (at : index ≡ 0). subst (λ (x : PieceData). IsPieceOf one.2.0 x)
      (same_Some first p (sym head ∙ subst (λ i. piece_at st i ≡ Some p) at there)) one.2.2)
      (λ (later : index ≢ 0).
      let at : p.index ≡ index = (form index p there).0 in
      let own = own_piece st p (form index p there).1 in
      let its = own_piece st first (form 0 first head).1 in
      let back = same_sym one.0 facts (same one.0 one.1) in
      let both : SameSet other.0 one.0 = λ x. let f = same other.0 other.1 x in (λ h. (back x).0 (f.0 h), λ h. f.1 ((back x).1 h)) in
      let brings = same_snapshots roster log other.0 one.0 other.2.1.state one.2.1.state other.2.0 one.2.0 sound both other.2.1.means one.2.1.means
      other.2.1.freezes one.2.1.freezes in
      record {
        name = own.0 ∙ sym its.0 ∙ one.2.2.name;
        total = own.1 ∙ sym its.1 ∙ one.2.2.total;
        content = content_too one.2.0 other.2.0 p.index p.content brings.0 brings.1 (λ e. later (sym at ∙ e)) other.2.2.content;
      })
      (same_or_not index 0)

  brings_all : (first : PieceData) → piece_at st 0 ≡ Some first → BringsStaging roster log (Some st) facts
  brings_all first head =
      let one = pieces 0 first head in
      let its = own_piece st first (form 0 first head).1 in
      let of_state : IsOfState one.2.1.state one.2.0 st = record {
        frozen = one.2.1.freezes;
        name = sym its.0 ∙ one.2.2.name;
        total = sym its.1 ∙ one.2.2.total;
        pieces = of_first first head;
      } in
      (one.2.1.state, one.2.0, of_state, means_same roster log one.0 facts one.2.1.state (same one.0 one.1) one.2.1.means)

  pub brings_facts : (made : State) → Hydrates st made → BringsStaging roster log (Some st) facts
  brings_facts made hydrates = brings_all hydrates.head.0 hydrates.head.1

  -- the pieces of a staging, if all have come, are of one snapshot of a state that means facts of the log
  of_sound : (found : Option PieceData) → piece_at st 0 ≡ found → IsComplete st → IsOfSoundState st
  of_sound None at complete = absurd (complete 0 (inr refl, at))
  of_sound (Some first) at complete =
      let b = brings_all first at in (b.0, b.1, b.2, (roster, log, facts, sound, b.3))

  pub whole_is_sound : IsComplete st → IsOfSoundState st
  whole_is_sound complete = of_sound (piece_at st 0) refl complete
