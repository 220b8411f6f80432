-- What a front and an anchor return, from the greatest linked LSN.
use Rattle.std.proofs.Common.{◌≡◌, ℕ, ◌≤◌, inr, List, rules, None}
use Rattle.std.specs.List.{Contains}
use Rattle.redo_core.specs.Data.{RecordData, CutData}
use Rattle.redo_core.specs.Linked.{Linked}
use Rattle.redo_core.specs.Linked.Linked.{start, next}
use Rattle.redo_core.specs.Shape.{record_fault}
use Rattle.redo_core.specs.Sound.{IsSound}
use Rattle.redo_core.specs.Position.{Position}
use Rattle.redo_core.specs.Roster.{least}
use Rattle.redo_core.specs.declared.facts.Fact.{Fact}
use Rattle.log_theorems.proofs.Log.{log_of_sound}
use Rattle.epoch_book.specs.Book.{BookData, IsBook}
use Rattle.hot_log.specs.Held.{IsHeld}
use Rattle.segment_theorems.specs.State.{State, state_of, Store}
use Rattle.segment_theorems.specs.Means.{MeansAt}
use Rattle.segment_theorems.specs.HasMeaning.{HasAnchor}
use Rattle.segment_theorems.proofs.Own.{complete_as}
use Rattle.segment_theorems.proofs.Same.{anchor_as, same_min}
use Rattle.segment_core.specs.Reading.{IsFrontAt, IsFrontOf}
use Rattle.segment_core.specs.PendingPages.{PendingData, HasPending}
use Rattle.segment_core.specs.Form.{IsSegment}
use Rattle.segment_core.specs.Points.{IsTopTo, HasPoints}
use Rattle.segment_core.specs.declared.points.Points.{Points}
use Rattle.page_base.specs.Stored.{IsStored}
use Rattle.segment_core.specs.declared.answers.Front.{Front}

-- a linked LSN is the base or a stored record's
pub linked_small : (cs : List CutData) (hs : List RecordData) (k base top n : ℕ) → ((r : RecordData) → Contains hs r → r.number ≤ top) → base ≤ top
    → Linked cs hs k base n → n ≤ top
linked_small cs hs k base top _ small low start = low
linked_small cs hs k base top _ small low (next r among alive above rest) = small r among

-- a record has its shape, so its LSN is small
pub small_number : (r : RecordData) → record_fault r ≡ None → r.number ≤ 281474976710655
small_number r shaped = search (rules, shaped)

pub true_anchor : (s : State) (n : ℕ) → HasAnchor s n → (roster : ℕ) (log facts : List Fact) (p : Position)
    → IsSound roster log → MeansAt roster log facts p s → n ≡ p.anchor
true_anchor s n own roster log facts p sound means = anchor_as log facts p s (log_of_sound roster log sound) means n own

-- what the parts of a segment keep, it keeps
pub form_of : (b : BookData) (hs : List RecordData) (base : ℕ) (store : Store) (p : Points) (d : PendingData)
    → IsBook b × IsHeld hs × IsStored store × (base ≤ least b.points) × HasPoints b hs base p × HasPending b hs store d → IsSegment (state_of b hs base store)
form_of b hs base store p d parts = record { book = parts.0; held = parts.1; store = parts.2; base = parts.3 }

pub true_front : (s : State) (front : Front) → IsFrontOf s front → (roster : ℕ) (log facts : List Fact) (p : Position) → IsSound roster log
    → MeansAt roster log facts p s → IsFrontAt p front
true_front s front own roster log facts p sound means = search (rules, complete_as, log_of_sound, same_min)

-- ---- whether a record is compared, by its standing
