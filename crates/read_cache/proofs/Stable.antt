-- What a segment shows, where it knows and stores more or less.
use Rattle.std.proofs.Common.{◌≡◌, ℕ, ◌<◌, ◌≤◌, ◌↔◌, List, sym, ap, ◌∙◌, rules}
use Rattle.std.specs.List.{Contains}
use Rattle.redo_core.specs.Data.{RecordData}
use Rattle.redo_core.specs.Order.{BeforeByNumber}
use Rattle.redo_core.specs.Standing.{IsAlive}
use Rattle.redo_core.specs.Writing.{after_records}
use Rattle.hot_log.proofs.Chain.{linked_more}
use Rattle.log_theorems.proofs.Meanings.{lists_as}
use Rattle.segment_theorems.specs.State.{State, version_of, image_of}
use Rattle.segment_theorems.specs.HasMeaning.{IsLinkedIn}
use Rattle.segment_theorems.specs.Shows.{Shows, IsApplied}

-- the two states have one view: which records are alive
pub record SameView (s t : State) : Type 0 where
  pub cuts : t.book.cuts ≡ s.book.cuts
  pub complete : t.book.complete ≡ s.book.complete

-- the two states have one image of the page
pub record SameImage (s t : State) (page : ℕ) : Type 0 where
  pub version : version_of t.store page ≡ version_of s.store page
  pub image : image_of t.store page ≡ image_of s.store page

-- the two states store the same records of the page above its version and up to the point
abbrev pub SameHeld : State → State → ℕ → ℕ → Type 0
SameHeld s t page q = (r : RecordData) → IsAlive s.book.cuts s.book.complete r.epoch r.number → r.page ≡ page → version_of s.store page < r.number → r.number ≤ q
    → Contains s.held r ↔ Contains t.held r

applied_as : (s t : State) (page q : ℕ) → SameView s t → SameImage s t page → SameHeld s t page q → (r : RecordData) → IsApplied s page q r ↔ IsApplied t page q r
applied_as s t page q v i held r = search rules

pub shows_as : (s t : State) (page q : ℕ) (image : List ℕ) → SameView s t → SameImage s t page → SameHeld s t page q → Shows s page q image → Shows t page q image
shows_as s t page q image v i held h = record {
  written = h.written;
  lists = lists_as BeforeByNumber (IsApplied s page q) (IsApplied t page q) (applied_as s t page q v i held) h.written h.lists;
  result = h.result ∙ ap (λ (own : List ℕ). after_records own h.written) (sym i.image);
}

pub linked_in : (s t : State) (n : ℕ) → SameView s t → t.base ≡ s.base → ((r : RecordData) → Contains s.held r → Contains t.held r) → IsLinkedIn s n → IsLinkedIn t n
linked_in s t n v base sub l = rw (v.cuts, v.complete, base) (linked_more s.book.cuts s.held t.held s.book.complete s.base n sub l)
