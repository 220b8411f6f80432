-- The rule of the lock: the word is 0 exactly where no seat holds the slot, and each list is that of its pass's entries.
use Rattle.std.specs.Prelude.{◌≡◌, ◌≢◌, ℕ, ◌<◌, ◌≤◌, true, List, length, slice_index, Option, Some}
use mathlib.Core.Option.{some}
use lib.ListN.{get_elem?}
use Rattle.atomic_table.specs.Table.{State}
use Rattle.node_lock.specs.declared.rule.SeatView.{SeatView}
use Rattle.node_lock.specs.Trail.{Entry}
use Rattle.node_lock.specs.Known.{ListsAreTrue, total, one, weight, is_of}

-- A seat's view: its lists are those of the trail. Where it holds the slot it is the holder, it noted that trail, and the word is 1.
-- A view that is spent knows of 0 passes.
pub record Fits (passes : ℕ) (trail : List Entry) (holder word seat : ℕ) (v : SeatView) : Type 0 where
  pub same : 0 < v.passes → v.passes ≡ passes
  pub lists : ListsAreTrue v.parts trail
  pub holds : v.holds ≡ true → (holder ≡ seat) × (v.noted ≡ trail) × (word ≡ 1)

-- There is one trail: that of the state at home, else the one that the holder noted. Each of the passes is in one view, and all
-- lists together are as long as the trail.
pub record KeepsLockRule {S : Type 0} (trail_of : S → List Entry) (keeps : S → Type 0) (passes : ℕ) (s : State (Option S) SeatView) : Type 0 where
  pub trail : List Entry
  pub holder : ℕ
  pub one_word : length s.words ≡ 1
  pub one_slot : length s.homes ≡ 1
  pub home : slice_index s.words 0 ≡ 0 → (d : S) × (get_elem? s.homes 0 ≡ some (some (Some d))) × (trail_of d ≡ trail) × keeps d
  pub away : slice_index s.words 0 ≢ 0 → (v : SeatView) × (get_elem? s.views holder ≡ some v) × (v.holds ≡ true)
  pub each : (seat : ℕ) (v : SeatView) → get_elem? s.views seat ≡ some v → Fits passes trail holder (slice_index s.words 0) seat v
  pub whole : total one s.views ≡ passes
  pub summed : total weight s.views ≡ length trail
  pub once : (pass : ℕ) → total (is_of pass) s.views ≤ 1
