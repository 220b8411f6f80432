-- The pieces of one snapshot of a state of a sound log are in place.
use Rattle.std.proofs.Common.{◌≡◌, ℕ, ◌<◌, ◌≤◌, ◌+◌, ◌*◌, ◌⊎◌, inr, ⊎_elim, List, length, take, drop, get_or, Some, zero, suc, sym, ap, ◌∙◌, subst, arith, rules}
use Rattle.std.specs.List.{slice_get, Contains}
use Rattle.std.proofs.lemmas.List.{length-take, length-drop, drop-drop}
use Rattle.std.proofs.lemmas.Option.{slice_get_within, get_or_from_slice_get}
use Rattle.redo_core.specs.Book.{BookData}
use Rattle.redo_core.specs.Data.{RecordData, CutData, AdvanceData}
use Rattle.redo_core.specs.Sets.{advances}
use Rattle.redo_core.specs.Order.{IsRising, RecordBefore}
use Rattle.redo_core.specs.Position.{Position}
use Rattle.redo_core.specs.Points.{HasAdvance}
use Rattle.redo_core.specs.Past.{IsPast, OthersPast}
use Rattle.redo_core.specs.Roster.{IsReader, point_of}
use Rattle.redo_core.specs.Meaning.{ImageData, ImageBefore}
use Rattle.redo_core.specs.Sound.{IsSound}
use Rattle.redo_core.specs.declared.facts.Fact.{Fact}
use Rattle.redo_core.specs.declared.facts.Fact.TheVariants.{Advance}
use Rattle.redo_core.proofs.FactParts.{advance_in}
use Rattle.redo_core.proofs.Rising.{rising_at, in_take, across}
use Rattle.redo_core.proofs.ByPlace.{contains_at}
use Rattle.log_theorems.proofs.Log.{IsLog, log_of_sound}
use Rattle.epoch_book.specs.Contradicted.{IsContradicted}
use Rattle.messages.specs.Pieces.{max_batch}
use Rattle.messages.specs.declared.pieces.PieceContent.{PieceContent}
use Rattle.messages.specs.declared.pieces.PieceContent.TheVariants.{Head, Page, Records}
use Rattle.segment_theorems.specs.State.{State}
use Rattle.segment_theorems.specs.Shows.{Shows}
use Rattle.segment_theorems.specs.Means.{MeansAt, Means}
use Rattle.segment_theorems.proofs.Knowing.{no_conflict}
use Rattle.segment_theorems.proofs.Reading.{pages_law}
use Rattle.segment_theorems.proofs.Replying.{dry}
use Rattle.segment_theorems.proofs.Same.{anchor_as}
use Rattle.snapshot.specs.Snapshots.{SnapshotData, IsContentAt}
use Rattle.snapshot.specs.Stagings.{StagingData, IsStaging}
use Rattle.snapshot.specs.Placing.{IsKeptFor, PageFollows, RecordsFollow, CanFollow, HasHead, CanStand, IsMisplaced, IsComplete}
use Rattle.snapshot.specs.Hydrating.{IsOfState, IsOfSoundState}
use Rattle.snapshot.proofs.AllPieces.{HasAll, has_all, of_batch}
use Rattle.snapshot.proofs.Shaped.{rising_drop}

-- an advance of the log that the first reader is known to be past the truncation by
abbrev PassesFirst : List Fact → CutData → Type 0
PassesFirst F c = (a : AdvanceData) × Contains (advances F) a × (a.reader ≡ 1) × (a.epoch < c.epoch) × (c.lo < a.point)

first_passes : {roster : ℕ} (log F : List Fact) (p : Position) (s : State) (c : CutData) → IsLog roster log → MeansAt roster log F p s
    → s.book.complete < c.epoch → OthersPast s.book.points s.book.waits c 0 → PassesFirst F c
first_passes {roster} log F p s c l m later all =
    let r : IsReader (length s.book.points) 1 = (omega arith, omega (arith, m.readers, l.some_reader)) in
    ⊎_elim
    (λ (low : c.lo < point_of s.book.points 1). ⊎_elim
    (λ (z : point_of s.book.points 1 ≡ 0). absurd (omega (arith, low, z)))
    (λ (g : HasAdvance (advances F) s.book.complete 1 (point_of s.book.points 1)).
    let le : g.0.epoch ≤ s.book.complete = g.2 in let is : g.0.point ≡ point_of s.book.points 1 = g.4 in
    (g.0, g.1, g.3, omega (arith, le, later), omega (arith, is, low)))
    (m.book.points.each 1 r).0)
    (λ (w : IsPast s.book.waits c 1). (w.0, ((m.book.waits w.0).0 w.1).0, w.2, w.3, w.4))
    (all 1 r (omega arith))

-- the book of such a state does not contradict itself: its own truncation would be in conflict with an advance of the log
pub book_stands : {roster : ℕ} (log F : List Fact) (s : State) → IsSound roster log → Means roster log F s → IsContradicted s.book → ⊥
book_stands {roster} log F s sound means bad =
    let m = means.1 in
    let c = bad.0 in
    let a = first_passes log F means.0 s c (log_of_sound roster log sound) m bad.2 bad.3 in
    let others : OthersPast s.book.points s.book.waits c a.0.reader = λ reader r no. bad.3 reader r (omega (arith, r.0)) in
    no_conflict roster log F s (Advance a.0) sound (m.part (Advance a.0) ((advance_in F a.0).0 a.1)) means
    (inr (c, bad.1, ((a.3, a.4), inr (bad.2, others))))

-- a page of the snapshot is shown above 0, since nothing is written up to 0
pub shown_above : {roster : ℕ} (log F : List Fact) (p : Position) (s : State) (d : SnapshotData) (st : StagingData) (i : ImageData) → IsLog roster log
    → MeansAt roster log F p s → IsOfState s d st → Contains d.pages i → 0 < d.anchor
shown_above log F p s d st i l m of h =
    let same : d.anchor ≡ p.anchor = anchor_as log F p s l m d.anchor of.frozen.anchor in
    let shown = (of.frozen.pages.members i).0 h in
    ⊎_elim
    (λ (z : d.anchor ≡ 0). absurd (shown.1 (dry log F l m.part p.epoch i.page i.bytes
    ((pages_law log F p s i.page 0 i.bytes l m (omega (arith, z, same)) (omega arith)).0 (subst (λ n. Shows s i.page n i.bytes) z shown.0)))))
    (λ (lt : 0 < d.anchor). lt)
    (let t : (d.anchor ≡ 0) ⊎ (0 < d.anchor) = grind arith in t)

-- pages follow one another by page number

page_follows : (d : SnapshotData) (index : ℕ) (before : PieceContent) (p : ImageData) → IsRising ImageBefore d.pages → IsContentAt d index before
    → slice_get d.pages index ≡ Some p → PageFollows before p
page_follows d index (Head book anchor) p rising at e = tt
page_follows d index (Page q) p rising at e =
    let lt : index < length d.pages = slice_get_within d.pages index p e in
    let low : q ≡ get_or d.pages at.0 q = sym (get_or_from_slice_get d.pages at.0 q q at.2) in
    let high : p ≡ get_or d.pages index p = sym (get_or_from_slice_get d.pages index p p e) in
    subst (λ (x : ImageData). x.page < p.page) (sym low) (subst (λ (x : ImageData). (get_or d.pages at.0 q).page < x.page) (sym high)
    (rising_at ImageBefore d.pages at.0 index q p rising (omega (arith, at.1)) lt))
page_follows d index (Records rs) p rising at e = absurd (let lt : index < length d.pages = slice_get_within d.pages index p e in omega (arith, at.1, lt))

-- and batches by key, each but the last full

full : (place : ℕ) (xs : List RecordData) → 0 < length (take 64 (drop (64 * (1 + place)) xs)) → length (take 64 (drop (64 * place) xs)) ≡ 64
full place xs some =
    omega (
      arith,
      some,
      length-take 64 (drop (64 * (1 + place)) xs),
      length-drop (64 * (1 + place)) xs,
      length-take 64 (drop (64 * place) xs),
      length-drop (64 * place) xs,
    )

rising_batches : (place : ℕ) (xs : List RecordData) (q r : RecordData) → IsRising RecordBefore xs → Contains (take 64 (drop (64 * place) xs)) q
    → Contains (take 64 (drop (64 * (1 + place)) xs)) r → RecordBefore q r
rising_batches place xs q r rising hq hr =
    let from : drop (64 * (1 + place)) xs ≡ drop 64 (drop (64 * place) xs) =
    ap (λ n. drop n xs) (let t : 64 * (1 + place) ≡ 64 * place + 64 = omega arith in t) ∙ sym (drop-drop 64 (64 * place) xs) in
    across RecordBefore (drop (64 * place) xs) 64 q r (rising_drop RecordBefore (64 * place) xs rising) hq
    (subst (λ ys. Contains ys r) from (in_take 64 (drop (64 * (1 + place)) xs) r hr))

records_follow : (d : SnapshotData) (index place : ℕ) (before : PieceContent) → IsRising RecordBefore d.records → IsContentAt d index before
    → index ≡ length d.pages + place → 0 < length (take max_batch (drop (max_batch * place) d.records))
    → RecordsFollow before (take max_batch (drop (max_batch * place) d.records))
records_follow d index place (Head book anchor) rising at is some = tt
records_follow d index place (Page q) rising at is some = tt
records_follow d index place (Records qs) rising at is some =
    let next : place ≡ 1 + at.0 = omega (arith, at.1, is) in (
      subst (λ (l : List RecordData). length l ≡ 64) (sym at.2)
          (full at.0 d.records (subst (λ n. 0 < length (take 64 (drop (64 * n) d.records))) next some)),
      λ q r hq hr. rising_batches at.0 d.records q r rising (subst (λ l. Contains l q) at.2 hq)
          (subst (λ n. Contains (take 64 (drop (64 * n) d.records)) r) next hr),
    )

kept_for : (d : SnapshotData) (s : State) (st : StagingData) (r : RecordData) → IsOfState s d st → Contains d.records r → IsKeptFor d.book d.anchor r
kept_for d s st r of h = subst (λ (b : BookData). IsKeptFor b d.anchor r) (sym of.frozen.book) ((of.frozen.records.members r).0 h).1

module _ {roster : ℕ} (log F : List Fact) (s : State) (d : SnapshotData) (st : StagingData) (sound : IsSound roster log)
    (means : Means roster log F s) (of : IsOfState s d st) (all : HasAll d st) where
  follows : (index : ℕ) (before here : PieceContent) → IsContentAt d index before → IsContentAt d (suc index) here → CanFollow d.book d.anchor before here
  follows index before (Head book anchor) at next = absurd (omega (arith, next.0))
  follows index before (Page p) at next =
      let same : next.0 ≡ index = omega (arith, next.1) in (
        shown_above log F means.0 s d st p (log_of_sound roster log sound) means.1 of (contains_at d.pages next.0 p next.2),
        page_follows d index before p of.frozen.pages.rising at (ap (slice_get d.pages) (sym same) ∙ next.2),
      )
  follows index before (Records rs) at next = (
    subst (RecordsFollow before) (sym next.2) (records_follow d index next.0 before of.frozen.records.rising at (omega (arith, next.1))
        (subst (λ (l : List RecordData). 0 < length l) next.2 next.3)),
    λ r h. kept_for d s st r of (of_batch max_batch (max_batch * next.0) d.records r (subst (λ l. Contains l r) next.2 h)),
  )

  has_head : HasHead st d.book d.anchor
  has_head = search rules

  stands : (index : ℕ) → index < d.total → CanStand st index
  stands zero lt = (d.book, d.anchor, has_head, λ bad. book_stands log F s sound means (subst IsContradicted of.frozen.book bad))
  stands (suc index) lt =
      let before = all.there index (omega (arith, lt)) in
      let here' = all.there (suc index) lt in (
        d.book,
        d.anchor,
        before.0,
        here'.0,
        has_head,
        before.1,
        here'.1,
        follows index before.0.content here'.0.content (all.content index before.0 before.1) (all.content (suc index) here'.0 here'.1),
      )

-- so none of them is misplaced
pub none_misplaced : (st : StagingData) (index : ℕ) → IsStaging st → IsComplete st → IsOfSoundState st → IsMisplaced st index → ⊥
none_misplaced st index form whole of bad =
    let s = of.0 in let d = of.1 in
    let all = has_all s d st of.2 form whole in
    let sound = of.3 in
    bad.1 (stands sound.1 sound.2 s d st sound.3 sound.4 of.2 all index (omega (arith, bad.0, of.2.total)))
