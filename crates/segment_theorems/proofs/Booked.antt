-- A state's book is that of the facts that it means.
use Rattle.std.proofs.Common.{◌≡◌, ℕ, ◌<◌, ◌↔◌, List, length, sym, ap, ◌∙◌, subst, rules}
use Rattle.std.specs.List.{Contains}
use Rattle.redo_core.specs.Data.{AdvanceData}
use Rattle.redo_core.specs.Sets.{SameSet, cuts, advances}
use Rattle.redo_core.specs.CompleteEpoch.{HasCutsTo, IsCompleteEpoch}
use Rattle.redo_core.specs.Roster.{IsReader, point_of}
use Rattle.redo_core.specs.Points.{HasAdvance, IsPoint, ArePoints}
use Rattle.redo_core.specs.Position.{Position, IsPosition}
use Rattle.redo_core.specs.Book.{BookData, roster_of}
use Rattle.redo_core.specs.Knowing.{KnowsFacts}
use Rattle.redo_core.specs.declared.facts.Fact.{Fact}
use Rattle.redo_core.proofs.Points.{same_points}
use Rattle.redo_core.proofs.Numbers.{greatest_unique}
use Rattle.log_theorems.proofs.Fronts.{same_sym}
use Rattle.log_theorems.proofs.Alike.{greatest_by, cuts_to_by}
use Rattle.segment_theorems.specs.State.{State}
use Rattle.segment_theorems.specs.Means.{MeansAt}

-- each reader's point is that of the facts
pub points_as : {roster : ℕ} {log F : List Fact} {p : Position} {s : State} → MeansAt roster log F p s → s.book.points ≡ p.points
points_as {roster} {log} {F} {p} {s} m =
    same_points roster s.book.points p.points m.readers m.position.points.count
    (λ reader r. greatest_unique (HasAdvance (advances F) p.epoch reader) (HasAdvance (advances F) p.epoch reader) (λ i. (λ x. x, λ x. x))
    (point_of s.book.points reader) (point_of p.points reader)
    (subst (λ k. IsPoint (advances F) k reader (point_of s.book.points reader)) m.epoch
    (m.book.points.each reader (subst (λ n. IsReader n reader) (sym m.readers) r)))
    (m.position.points.each reader r))

-- the waiting advances are those of later epochs than the facts' own
pub waits_as : {roster : ℕ} {log F : List Fact} {p : Position} {s : State} → MeansAt roster log F p s → (a : AdvanceData)
    → Contains s.book.waits a ↔ (Contains (advances F) a × (p.epoch < a.epoch))
waits_as {roster} {log} {F} {p} {s} m a = subst (λ k. Contains s.book.waits a ↔ (Contains (advances F) a × (k < a.epoch))) m.epoch (m.book.waits a)

-- the book's complete epoch is that of its truncations
pub epoch_of : {roster : ℕ} {log F : List Fact} {p : Position} {s : State} → MeansAt roster log F p s → IsCompleteEpoch s.book.cuts s.book.complete
epoch_of {roster} {log} {F} {p} {s} m =
    subst (IsCompleteEpoch s.book.cuts) (sym m.epoch)
    (greatest_by (HasCutsTo (cuts F)) (HasCutsTo s.book.cuts) (cuts_to_by (cuts F) s.book.cuts (same_sym s.book.cuts (cuts F) m.book.same_cuts))
    (cuts_to_by s.book.cuts (cuts F) m.book.same_cuts) p.epoch m.position.epoch)

-- a book with the truncations of facts has their complete epoch
pub epoch_as : {roster : ℕ} (F : List Fact) (p : Position) (b : BookData) → IsPosition roster F p → SameSet b.cuts (cuts F) → IsCompleteEpoch b.cuts b.complete
    → b.complete ≡ p.epoch
epoch_as F p b front sc h = search (rules, greatest_unique, cuts_to_by, same_sym)

-- a book that has what facts at a position have
pub readers_at : {roster : ℕ} (F : List Fact) (p : Position) (b : BookData) → IsPosition roster F p → b.points ≡ p.points → roster_of b ≡ roster
readers_at F p b front sp = ap length sp ∙ front.points.count

pub book_at : {roster : ℕ} (F : List Fact) (p : Position) (b : BookData) → IsPosition roster F p → SameSet b.cuts (cuts F) → b.complete ≡ p.epoch
    → b.points ≡ p.points
    → ((a : AdvanceData) → Contains b.waits a ↔ (Contains (advances F) a × (p.epoch < a.epoch))) → KnowsFacts F b
book_at {roster} F p b front sc e sp sw = record {
  same_cuts = sc;
  points = subst (λ k. ArePoints (roster_of b) (advances F) k b.points) (sym e)
      (subst (λ n. ArePoints n (advances F) p.epoch b.points) (sym (readers_at F p b front sp))
      (subst (ArePoints roster (advances F) p.epoch) (sym sp) front.points));
  waits = λ a. subst (λ k. Contains b.waits a ↔ (Contains (advances F) a × (k < a.epoch))) (sym e) (sw a);
}
