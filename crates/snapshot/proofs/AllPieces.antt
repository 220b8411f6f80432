-- A staging that has all pieces of one snapshot: what they contain.
use Rattle.std.proofs.Common.{◌≡◌, ℕ, ◌<◌, ◌≤◌, ◌+◌, ◌-◌, ◌*◌, ◌⊎◌, ◌↔◌, inl, ⊎_elim, List, length, take, drop, get_or, Option, Some, None, zero, suc, refl, sym, ap, ◌∙◌, subst, arith, rules}
use Rattle.std.specs.List.{slice_get, Contains}
use Rattle.std.proofs.lemmas.List.{length-take, length-drop, get_or-take, get_or-drop}
use Rattle.std.proofs.lemmas.Option.{slice_get_within, slice_get_read}
use Rattle.redo_core.specs.Data.{RecordData}
use Rattle.redo_core.specs.Meaning.{ImageData}
use Rattle.redo_core.proofs.Rising.{in_take, in_drop}
use Rattle.redo_core.proofs.ByPlace.{contains_at}
use Rattle.messages.specs.Pieces.{PieceData, max_batch}
use Rattle.messages.specs.declared.pieces.PieceContent.{PieceContent}
use Rattle.messages.specs.declared.pieces.PieceContent.TheVariants.{Head, Page, Records}
use Rattle.segment_theorems.specs.State.{State}
use Rattle.snapshot.specs.Snapshots.{SnapshotData, IsPieceCount, IsContentAt}
use Rattle.snapshot.specs.Stagings.{StagingData, piece_at, IsStaging}
use Rattle.snapshot.specs.Placing.{IsComplete}
use Rattle.snapshot.specs.Hydrating.{BringsPage, BringsRecord, IsOfState}

-- each piece of the snapshot is there, and is at its index
pub record HasAll (d : SnapshotData) (st : StagingData) : Type 0 where
  pub there : (index : ℕ) → index < d.total → (p : PieceData) × (piece_at st index ≡ Some p)
  pub content : (index : ℕ) (p : PieceData) → piece_at st index ≡ Some p → IsContentAt d index p.content
  pub count : IsPieceCount (length d.pages) (length d.records) d.total

pub has_all : (s : State) (d : SnapshotData) (st : StagingData) → IsOfState s d st → IsStaging st → IsComplete st → HasAll d st
has_all s d st of form whole = record {
  there = λ index lt. there_at index lt (piece_at st index) refl;
  content = λ index p e. subst (λ i. IsContentAt d i p.content) (form index p e).0 (of.pieces index p e).content;
  count = of.frozen.total;
}
  where
    there_at : (index : ℕ) → index < d.total → (o : Option PieceData) → piece_at st index ≡ o → (p : PieceData) × (piece_at st index ≡ Some p)
    there_at index lt None e = absurd (whole index (inl (omega (arith, lt, of.total)), e))
    there_at index lt (Some p) e = (p, e)

-- what is at the index of the head, of a page and of a batch

pub page_at : (d : SnapshotData) (index place : ℕ) (content : PieceContent) (i : ImageData) → IsContentAt d index content → index ≡ 1 + place
    → slice_get d.pages place ≡ Some i → content ≡ Page i
page_at d index place content i at is e = search (rules, slice_get_within)

pub batch_at : (d : SnapshotData) (index place : ℕ) (content : PieceContent) → IsContentAt d index content → index ≡ 1 + length d.pages + place
    → content ≡ Records (take max_batch (drop (max_batch * place) d.records))
batch_at d index place content at is = search (rules, slice_get_within)

-- each member of a list is in one of its batches

batch_of : (k : ℕ) → (place : ℕ) × (64 * place ≤ k) × (k < 64 * place + 64)
batch_of zero = (0, omega arith, omega arith)
batch_of (suc k) =
    let ih = batch_of k in
    ⊎_elim
    (λ (lt : suc k < 64 * ih.0 + 64). (ih.0, omega (arith, ih.1), lt))
    (λ (e : suc k ≡ 64 * ih.0 + 64). (suc ih.0, omega (arith, e), omega (arith, e)))
    (let a : 64 * ih.0 ≤ k = ih.1 in let b : k < 64 * ih.0 + 64 = ih.2 in
    let t : (suc k < 64 * ih.0 + 64) ⊎ (suc k ≡ 64 * ih.0 + 64) = grind (arith, a, b) in t)

pub in_batch : {X : Type 0} (xs : List X) (x : X) → Contains xs x
    → (place : ℕ) × (64 * place < length xs) × Contains (take 64 (drop (64 * place) xs)) x
in_batch xs x h =
    let b = batch_of h.0 in
    let from = 64 * b.0 in
    let low : from ≤ h.0 = b.1 in
    let high : h.0 < from + 64 = b.2 in
    let within : h.0 < length xs = h.1 in
    let at : h.0 - from < 64 = omega (arith, low, high) in (
      b.0,
      omega (arith, low, within),
      (
        h.0 - from,
        omega (arith, length-take 64 (drop from xs), length-drop from xs, low, high, within),
        get_or-take 64 (drop from xs) (h.0 - from) x at ∙ get_or-drop from xs (h.0 - from) x
            ∙ ap (λ n. get_or xs n x) (let t : from + (h.0 - from) ≡ h.0 = omega (arith, low) in t) ∙ h.2,
      ),
    )

pub of_batch : {X : Type 0} (n from : ℕ) (xs : List X) (x : X) → Contains (take n (drop from xs)) x → Contains xs x
of_batch n from xs x h = in_drop from xs x (in_take n (drop from xs) x h)

-- so the pieces contain just the records and just the pages of the snapshot

pub brings_records : (d : SnapshotData) (st : StagingData) → HasAll d st → (r : RecordData) → BringsRecord st r ↔ Contains d.records r
brings_records d st all r = (
  λ h. let at : IsContentAt d h.0 (Records h.2) = subst (IsContentAt d h.0) h.4 (all.content h.0 h.1 h.3) in
      of_batch max_batch (max_batch * at.0) d.records r (subst (λ rs. Contains rs r) at.2 h.5),
  λ h.
      let b = in_batch d.records r h in
      let index = 1 + length d.pages + b.0 in
      let p = all.there index (omega (arith, b.1, all.count.1.0, all.count.2)) in
      (index, p.0, take max_batch (drop (max_batch * b.0) d.records), p.1, batch_at d index b.0 p.0.content (all.content index p.0 p.1) refl, b.2),
)

pub brings_pages : (d : SnapshotData) (st : StagingData) → HasAll d st → (i : ImageData) → BringsPage st i ↔ Contains d.pages i
brings_pages d st all i = (
  λ h. let at : IsContentAt d h.0 (Page i) = subst (IsContentAt d h.0) h.3 (all.content h.0 h.1 h.2) in contains_at d.pages at.0 i at.2,
  λ h.
      let index = 1 + h.0 in
      let lt : h.0 < length d.pages = h.1 in
      let p = all.there index (omega (arith, lt, all.count.2)) in
      (index, p.0, p.1, page_at d index h.0 p.0.content i (all.content index p.0 p.1) refl (slice_get_read d.pages (length d.pages) h.0 i refl lt (sym h.2))),
)
