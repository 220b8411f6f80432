-- The creation of a volume: all nodes are fresh at one time.
use Rattle.std.specs.Prelude.{◌≡◌, ◌≢◌, ℕ, ◌≤◌, ◌⊎◌, List, [], ◌∷◌, Bool, false, true, Option, Some, slice_set}
use Rattle.segment_core.specs.declared.answers.Front.{Front}
use Rattle.guard.specs.declared.replies.Reply.{Reply}
use Rattle.guard.specs.declared.replies.Reply.TheVariants as reply
use Rattle.volume.specs.declared.actions.Action.{Action}
use Rattle.volume.specs.declared.actions.Action.TheVariants.{Created}
use Rattle.volume.specs.declared.actions.Fault.TheVariants.{NotFresh}
use Rattle.volume.specs.declared.creating.Creating.{Creating}
use Rattle.volume.specs.declared.creating.Round.{Round}
use Rattle.volume.specs.declared.creating.Round.TheVariants as round
use Rattle.volume.specs.declared.errands.Errand.TheVariants.{Found}
use Rattle.volume.specs.declared.errands.Query.TheVariants.{Status, Fence}
use Rattle.volume.specs.declared.phases.Phase.TheVariants as phase
use Rattle.volume.specs.declared.turns.Transition.{Transition}
use Rattle.volume.specs.Settings.{SettingsData}
use Rattle.volume.specs.Sets.{birth_at, is_marked, count_marked, no_nodes, no_births}
use Rattle.volume.specs.Asking.{asks_from, asks_at, queries_from, query_to}
use Rattle.volume.specs.Turning.{Stays, Enters, StopsWith}

abbrev pub creating_of : Round → List (Option ℕ) → List Bool → Creating
creating_of round births answered = record { round = round; births = births; answered = answered }

-- a creation in which nobody has answered
abbrev pub new_creation : Creating
new_creation = creating_of round.First no_births no_nodes

-- each node has answered in this round
abbrev pub HaveAllAnswered : SettingsData → Creating → Type 0
HaveAllAnswered s c = s.nodes ≤ count_marked c.answered

-- the creation where a node has reported in the first round that it is fresh, and its birth
abbrev pub after_first : Creating → ℕ → ℕ → Creating
after_first c node birth = creating_of c.round (slice_set c.births node (Some birth)) (slice_set c.answered node true)

-- when all have, each is asked again
abbrev pub HearsFirst : SettingsData → Creating → ℕ → ℕ → Transition → Type 0
HearsFirst s old node birth turn =
    let new = after_first old node birth in
    (¬ (HaveAllAnswered s new) × Enters turn (phase.Creating new) [])
    ⊎ (HaveAllAnswered s new × Enters turn (phase.Creating (creating_of round.Second new.births no_nodes)) (queries_from (Fence 0) 0 s.nodes))

-- the creation where a node has reported in the second round that it is fresh, or in the third that it is a member
abbrev pub after_second : Creating → ℕ → Creating
after_second c node = creating_of c.round c.births (slice_set c.answered node true)

-- with the birth of the first round; when all have, each is admitted
abbrev pub HearsSecond : SettingsData → Creating → ℕ → ℕ → Transition → Type 0
HearsSecond s old node birth turn =
    let new = after_second old node in
    ((birth_at old.births node ≢ Some birth) × StopsWith turn NotFresh)
    ⊎ ((birth_at old.births node ≡ Some birth) × ¬ (HaveAllAnswered s new) × Enters turn (phase.Creating new) [])
    ⊎ ((birth_at old.births node ≡ Some birth) × HaveAllAnswered s new
    × Enters turn (phase.Creating (creating_of round.Founding new.births no_nodes)) (asks_from 1 Found 0 new.births))

-- a node is a member; when all are, the volume is created
abbrev pub HearsFounded : SettingsData → Creating → ℕ → Transition → Type 0
HearsFounded s old node turn =
    let new = after_second old node in
    ((is_marked old.answered node ≡ true) × Stays turn [])
    ⊎ ((is_marked old.answered node ≡ false) × ¬ (HaveAllAnswered s new) × Enters turn (phase.Creating new) [])
    ⊎ ((is_marked old.answered node ≡ false) × HaveAllAnswered s new × Enters turn (phase.Creating new) (Created ∷ []))

-- with the birth of the first round
abbrev pub HearsAdmitted : SettingsData → Creating → ℕ → ℕ → Transition → Type 0
HearsAdmitted s old node birth turn =
    ((birth_at old.births node ≢ Some birth) × Stays turn [])
    ⊎ ((birth_at old.births node ≡ Some birth) × HearsFounded s old node turn)

-- the complete point of an empty segment
abbrev pub IsEmptyFront : Front → Type 0
IsEmptyFront front = (front.epoch ≡ 0) × (front.complete ≡ 0)

-- a fresh node counts if it has nothing: what it has may be of another volume
abbrev pub HearsFresh : SettingsData → Creating → ℕ → ℕ → Front → Transition → Type 0
HearsFresh s old node birth front turn =
    (¬ (IsEmptyFront front) × StopsWith turn NotFresh) ⊎ (IsEmptyFront front × HearsFirst s old node birth turn)

-- a reply in each round
abbrev pub HearsInRound : SettingsData → Creating → Round → ℕ → Reply → Transition → Type 0
HearsInRound s old round.First node (reply.Status generation birth false front accepted) turn = HearsFresh s old node birth front turn
HearsInRound s old round.First node (reply.Status generation birth true front accepted) turn = StopsWith turn NotFresh
HearsInRound s old round.Second node (reply.Fresh birth) turn = HearsSecond s old node birth turn
HearsInRound s old round.Second node (reply.Stale generation) turn = StopsWith turn NotFresh
HearsInRound s old round.Founding node (reply.Admitted generation birth) turn = HearsAdmitted s old node birth turn
HearsInRound s old round.Founding node reply.Member turn = HearsFounded s old node turn
HearsInRound s old other node told turn = Stays turn []

abbrev pub HearsCreating : SettingsData → Creating → ℕ → Reply → Transition → Type 0
HearsCreating s old node told turn = HearsInRound s old old.round node told turn

-- what a node is asked again
abbrev pub retries_creating : Creating → Round → ℕ → List Action
retries_creating c round.First node = query_to Status node
retries_creating c round.Second node = query_to (Fence 0) node
retries_creating c round.Founding node = asks_at 1 Found node (birth_at c.births node)
