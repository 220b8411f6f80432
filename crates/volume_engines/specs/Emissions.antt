-- What a life emits, and a history that has it.
use Rattle.std.specs.Prelude.{◌≡◌, ℕ, zero, suc, ◌<◌, ◌≤◌, List, [], ◌∷◌, ◌++◌, length, map, drop, Bool, true, false, nat_lt, if◌then◌else◌}
use Rattle.redo_core.specs.Data.{RecordData, advance_of}
use Rattle.redo_core.specs.declared.facts.Fact.{Fact}
use Rattle.redo_core.specs.declared.facts.Fact.TheVariants.{Record, Advance}
use Rattle.volume.specs.declared.actions.Action.{Action}
use Rattle.volume.specs.declared.actions.Action.TheVariants.{Refused}
use Rattle.volume.specs.declared.events.Event.{Event}
use Rattle.volume.specs.declared.events.Event.TheVariants as event
use Rattle.volume.specs.declared.phases.Phase.{Phase}
use Rattle.volume.specs.declared.phases.Phase.TheVariants as phase
use Rattle.volume.specs.declared.phases.Writing.{Writing}
use Rattle.volume_logs.specs.Histories.{History}
use Rattle.volume_engines.specs.Lives.{Life}

-- ---- one step
-- the records that a step adds to the backlog
abbrev pub new_records : List RecordData → List RecordData → List Fact
new_records old new = map (λ r. Record r) (drop (length old) new)

abbrev pub is_refused : List Action → Bool
is_refused [] = false
is_refused (Refused fault ∷ actions) = true
is_refused (other ∷ actions) = false

-- what a call of an open volume emits: its record, or an advance that is not refused
abbrev pub emitted : Event → List Action → Writing → Writing → List Fact
emitted (event.Write page init patches) actions old new = new_records old.backlog new.backlog
emitted (event.Commit header) actions old new = new_records old.backlog new.backlog
emitted (event.Advance reader point) actions old new =
    if is_refused actions then [] else Advance (advance_of old.writer.epoch reader point) ∷ []
emitted other actions old new = []

abbrev pub emitted_in : Phase → Phase → Event → List Action → List Fact
emitted_in (phase.Open old) (phase.Open new) happens actions = emitted happens actions old new
emitted_in old new happens actions = []

-- ---- a life
-- what the first steps emit, one after another
abbrev pub emitted_by : Life → ℕ → List Fact
emitted_by life zero = []
emitted_by life (suc n) =
    emitted_by life n ++ emitted_in (life.states n).phase (life.states (suc n)).phase (life.events n) (life.actions n)

-- how many of the first steps come before the moment
abbrev pub steps_before : Life → ℕ → ℕ → ℕ
steps_before life zero t = 0
steps_before life (suc n) t = if nat_lt (life.moments n) t then suc n else steps_before life n t

-- Up to the moment t the history has of epoch k what the earlier steps of the life have emitted. No two of the steps are at one moment.
pub record HasEmissions (h : History) (life : Life) (count t k : ℕ) : Type 0 where
  pub apart : (n : ℕ) → suc n < count → life.moments n < life.moments (suc n)
  pub written : (s : ℕ) → s ≤ t → h.written s k ≡ emitted_by life (steps_before life count s)
