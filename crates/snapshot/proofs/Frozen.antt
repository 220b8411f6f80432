-- What freezes a state is a snapshot, and all snapshots of a state have as many pieces.
use Rattle.std.proofs.Common.{◌≡◌, ◌≢◌, ℕ, ◌≤◌, List, length, sym, ap, ◌∙◌, subst, arith}
use Rattle.redo_core.specs.Book.{BookData, IsBook}
use Rattle.redo_core.specs.Data.{RecordData}
use Rattle.redo_core.specs.Meaning.{ImageData, ImageBefore}
use Rattle.redo_core.specs.Order.{Lists, RecordBefore}
use Rattle.redo_core.specs.Roster.{least}
use Rattle.redo_core.specs.Writing.{zeros}
use Rattle.redo_core.proofs.Members.{all_of, lists_unique}
use Rattle.segment_theorems.specs.State.{State}
use Rattle.segment_theorems.specs.Shows.{Shows}
use Rattle.segment_theorems.specs.HasMeaning.{HasAnchor, IsKeptBy}
use Rattle.segment_core.proofs.OneView.{one_anchor, anchor_low}
use Rattle.snapshot.specs.Snapshots.{SnapshotData, snapshot_of, IsSnapshot, Freezes, IsPieceCount}

pub snapshot_form : (s : State) (d : SnapshotData) → IsBook s.book → Freezes s d → IsSnapshot d
snapshot_form s d form frozen = record {
  book = subst IsBook (sym frozen.book) form;
  anchor = subst (λ (b : BookData). d.anchor ≤ least b.points) (sym frozen.book) (anchor_low s d.anchor frozen.anchor);
  pages = frozen.pages.rising;
  nonzero = all_of (λ (i : ImageData). i.bytes ≢ zeros) d.pages (λ i h. ((frozen.pages.members i).0 h).1);
  records = frozen.records.rising;
  total = frozen.total;
}

pub image_apart : (i j : ImageData) → ImageBefore i j → ImageBefore j i → ⊥
image_apart i j lt gt = omega (arith, lt, gt)

pub record_apart : (r s : RecordData) → RecordBefore r s → RecordBefore s r → ⊥
record_apart r s a b = grind (arith, a, b)

-- the pages and the records of a snapshot are those that are listed
pub same_pages : (s : State) (d : SnapshotData) (anchor : ℕ) (pages : List ImageData) → Freezes s d → HasAnchor s anchor
    → Lists ImageBefore (λ i. Shows s i.page anchor i.bytes × (i.bytes ≢ zeros)) pages → d.pages ≡ pages
same_pages s d anchor pages frozen has lists =
    lists_unique ImageBefore image_apart (λ i. Shows s i.page d.anchor i.bytes × (i.bytes ≢ zeros)) (λ i. Shows s i.page anchor i.bytes × (i.bytes ≢ zeros))
    (λ i. (
      λ h. subst (λ n. Shows s i.page n i.bytes × (i.bytes ≢ zeros)) (one_anchor s d.anchor anchor frozen.anchor has) h,
      λ h. subst (λ n. Shows s i.page n i.bytes × (i.bytes ≢ zeros)) (one_anchor s anchor d.anchor has frozen.anchor) h,
    ))
    d.pages pages frozen.pages lists

pub same_records : (s : State) (d : SnapshotData) (anchor : ℕ) (records : List RecordData) → Freezes s d → HasAnchor s anchor
    → Lists RecordBefore (IsKeptBy s anchor) records → d.records ≡ records
same_records s d anchor records frozen has lists =
    lists_unique RecordBefore record_apart (IsKeptBy s d.anchor) (IsKeptBy s anchor)
    (λ r. (
      λ h. subst (λ n. IsKeptBy s n r) (one_anchor s d.anchor anchor frozen.anchor has) h,
      λ h. subst (λ n. IsKeptBy s n r) (one_anchor s anchor d.anchor has frozen.anchor) h,
    ))
    d.records records frozen.records lists

-- so there are as many pieces
pub count_as : (s : State) (d : SnapshotData) (anchor : ℕ) (pages : List ImageData) (records : List RecordData) → Freezes s d → HasAnchor s anchor
    → Lists ImageBefore (λ i. Shows s i.page anchor i.bytes × (i.bytes ≢ zeros)) pages → Lists RecordBefore (IsKeptBy s anchor) records
    → IsPieceCount (length pages) (length records) d.total
count_as s d anchor pages records frozen has shown kept =
    subst (λ (ps : List ImageData). IsPieceCount (length ps) (length records) d.total) (same_pages s d anchor pages frozen has shown)
    (subst (λ (rs : List RecordData). IsPieceCount (length d.pages) (length rs) d.total) (same_records s d anchor records frozen has kept) frozen.total)

one_count : (pages records m n : ℕ) → IsPieceCount pages records m → IsPieceCount pages records n → m ≡ n
one_count pages records m n a b = omega (arith, a.1.0, a.1.1, a.2, b.1.0, b.1.1, b.2)

-- and a segment has one snapshot of a name
pub one_snapshot : (s : State) (d e : SnapshotData) → Freezes s d → Freezes s e → d.name ≡ e.name → d ≡ e
one_snapshot s d e a b name =
    let pages : d.pages ≡ e.pages = same_pages s d e.anchor e.pages a b.anchor b.pages in
    let records : d.records ≡ e.records = same_records s d e.anchor e.records a b.anchor b.records in
    let total : d.total ≡ e.total = one_count (length e.pages) (length e.records) d.total e.total (count_as s d e.anchor e.pages e.records a b.anchor b.pages b.records) b.total in
    ap (λ n. snapshot_of n d.total d.book d.anchor d.pages d.records) name ∙ ap (λ n. snapshot_of e.name n d.book d.anchor d.pages d.records) total
    ∙ ap (λ z. snapshot_of e.name e.total z d.anchor d.pages d.records) (a.book ∙ sym b.book)
    ∙ ap (λ n. snapshot_of e.name e.total e.book n d.pages d.records) (one_anchor s d.anchor e.anchor a.anchor b.anchor)
    ∙ ap (λ ps. snapshot_of e.name e.total e.book e.anchor ps d.records) pages ∙ ap (snapshot_of e.name e.total e.book e.anchor e.pages) records
