-- The pieces of a snapshot have the shape of pieces.
use Rattle.std.proofs.Common.{◌≢◌, ℕ, ◌<◌, ◌≤◌, ◌*◌, List, [], ◌∷◌, length, take, drop, zero, suc, sym, subst, arith}
use Rattle.std.proofs.lemmas.List.{length-take}
use Rattle.redo_core.specs.Roster.{least}
use Rattle.redo_core.specs.Book.{IsBook, BookData}
use Rattle.redo_core.specs.Data.{RecordData}
use Rattle.redo_core.specs.Meaning.{ImageData}
use Rattle.redo_core.specs.Order.{IsRising, RecordBefore}
use Rattle.redo_core.specs.Writing.{zeros}
use Rattle.redo_core.proofs.Members.{all_of, each}
use Rattle.redo_core.proofs.Rising.{in_take}
use Rattle.redo_core.proofs.ByPlace.{contains_at}
use Rattle.messages.specs.Pieces.{IsPiece, max_batch, piece_of}
use Rattle.messages.specs.declared.pieces.PieceContent.{PieceContent}
use Rattle.messages.specs.declared.pieces.PieceContent.TheVariants.{Head, Page, Records}
use Rattle.snapshot.specs.Snapshots.{SnapshotData, IsSnapshot, IsContentAt}

-- parts of a list that rises rise
pub rising_drop : {X : Type 0} (Before : X → X → Type 0) (n : ℕ) (xs : List X) → IsRising Before xs → IsRising Before (drop n xs)
rising_drop Before zero xs r = r
rising_drop Before (suc n) [] r = tt
rising_drop Before (suc n) (x ∷ xs) r = rising_drop Before n xs r.1

pub rising_take : {X : Type 0} (Before : X → X → Type 0) (n : ℕ) (xs : List X) → IsRising Before xs → IsRising Before (take n xs)
rising_take Before zero xs r = tt
rising_take Before (suc n) [] r = tt
rising_take Before (suc n) (x ∷ xs) r = (all_of (Before x) (take n xs) (λ y h. each (Before x) xs y r.0 (in_take n xs y h)), rising_take Before n xs r.1)

pub piece_shaped : (d : SnapshotData) (index : ℕ) (content : PieceContent) → IsSnapshot d → index < d.total → IsContentAt d index content
    → IsPiece (piece_of d.name index d.total content)
piece_shaped d index (Head book anchor) form lt at = record {
  index = lt;
  first = grind (arith, at.0);
  content = (
    subst IsBook (sym at.1) form.book,
    subst (λ (b : BookData). anchor ≤ least b.points) (sym at.1) (subst (λ a. a ≤ least d.book.points) (sym at.2) form.anchor),
  );
}
piece_shaped d index (Page p) form lt at = record {
  index = lt;
  first = grind (arith, at.1);
  content = each (λ (i : ImageData). i.bytes ≢ zeros) d.pages p form.nonzero (contains_at d.pages at.0 p at.2);
}
piece_shaped d index (Records rs) form lt at = record {
  index = lt;
  first = grind (arith, at.1);
  content = (
    at.3,
    subst (λ (l : List RecordData). length l ≤ max_batch) (sym at.2) (short (drop (max_batch * at.0) d.records)),
    subst (IsRising RecordBefore) (sym at.2) (rising_take RecordBefore max_batch (drop (max_batch * at.0) d.records) (rising_drop RecordBefore (max_batch * at.0) d.records form.records)),
  );
}
  where
    short : (xs : List RecordData) → length (take max_batch xs) ≤ max_batch
    short xs = omega (arith, length-take max_batch xs)
