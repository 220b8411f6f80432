-- What follows from an event.
use Rattle.std.specs.Prelude.{◌≡◌, ℕ, ◌<◌, ◌≤◌, ◌⊎◌, List, [], ◌∷◌}
use Rattle.guard.specs.declared.replies.Reply.{Reply}
use Rattle.volume.specs.declared.actions.Action.{Action}
use Rattle.volume.specs.declared.actions.Action.TheVariants.{Refused}
use Rattle.volume.specs.declared.actions.Fault.{Fault}
use Rattle.volume.specs.declared.actions.Fault.TheVariants.{Fenced, NotOpen, NotFresh}
use Rattle.volume.specs.declared.errands.Query.TheVariants.{Status, Fence}
use Rattle.volume.specs.declared.events.Event.{Event}
use Rattle.volume.specs.declared.events.Event.TheVariants as event
use Rattle.volume.specs.declared.phases.Phase.{Phase}
use Rattle.volume.specs.declared.phases.Phase.TheVariants as phase
use Rattle.volume.specs.declared.phases.Writing.{Writing}
use Rattle.volume.specs.declared.turns.Transition.{Transition}
use Rattle.volume.specs.declared.turns.Transition.TheVariants as turn
use Rattle.volume.specs.Settings.{SettingsData}
use Rattle.volume.specs.Sets.{birth_at}
use Rattle.volume.specs.Asking.{queries_from}
use Rattle.volume.specs.Data.{VolumeData, volume_of, at_phase}
use Rattle.volume.specs.Turning.{Stays}
use Rattle.volume.specs.Creating.{HearsCreating, new_creation, retries_creating}
use Rattle.volume.specs.Fencing.{HearsFencing, RetriesFencing, new_fencing}
use Rattle.volume.specs.Opening.{HearsOpening, retries_opening}
use Rattle.volume.specs.Writing.{HearsWriting, WritesPage, EndsTransaction, RaisesPoint, brings}

-- nothing but a refusal
abbrev pub OnlyRefuses : VolumeData → Fault → List Action → VolumeData → Type 0
OnlyRefuses old fault actions new = (actions ≡ Refused fault ∷ []) × (new ≡ old)

-- ---- calls
-- at most once, and before the machine opens
abbrev pub Creates : VolumeData → List Action → VolumeData → Type 0
Creates old actions new =
    ((0 < old.generation) × OnlyRefuses old NotFresh actions new)
    ⊎ ((old.generation ≡ 0) × (actions ≡ queries_from Status 0 old.settings.nodes)
    × (new ≡ volume_of old.settings 1 (phase.Creating new_creation)))

-- under a generation above that of each earlier opening of the machine; whatever it was at is dropped
abbrev pub StartsOpening : VolumeData → ℕ → List Action → VolumeData → Type 0
StartsOpening old generation actions new =
    ((generation ≤ old.generation) × OnlyRefuses old (Fenced old.generation) actions new)
    ⊎ ((old.generation < generation) × (actions ≡ queries_from (Fence generation) 0 old.settings.nodes)
    × (new ≡ volume_of old.settings generation (phase.Fencing (new_fencing generation))))

-- a call of a volume that is open
abbrev pub CallsOpen : (Writing → List Action → Writing → Type 0) → VolumeData → Phase → List Action → VolumeData → Type 0
CallsOpen does old (phase.Open w) actions new = (after : Writing) × does w actions after × (new ≡ at_phase old (phase.Open after))
CallsOpen does old other actions new = OnlyRefuses old NotOpen actions new

-- ---- replies and broken connections
abbrev pub Hears : SettingsData → Phase → ℕ → Reply → Phase → Transition → Type 0
Hears s phase.Idle node told new turn = Stays turn [] × (new ≡ phase.Idle)
Hears s (phase.Creating c) node told new turn = HearsCreating s c node told turn × (new ≡ phase.Creating c)
Hears s (phase.Fencing f) node told new turn = HearsFencing s f node told turn × (new ≡ phase.Fencing f)
Hears s (phase.Opening old) node told (phase.Opening new) turn = HearsOpening s.quorum old node told new turn
Hears s (phase.Open old) node told (phase.Open new) turn = HearsWriting s.quorum old node told new turn
Hears s old node told new turn = ⊥

-- what was asked of a node is asked again
abbrev pub Retries : SettingsData → Phase → ℕ → Transition → Type 0
Retries s phase.Idle node turn = Stays turn []
Retries s (phase.Creating c) node turn = Stays turn (retries_creating c c.round node)
Retries s (phase.Fencing f) node turn = RetriesFencing s f node turn
Retries s (phase.Opening o) node turn = Stays turn (retries_opening o o.stage node)
Retries s (phase.Open w) node turn = Stays turn (brings w node (birth_at w.session.births node))

-- the phase that a turn leaves
abbrev pub Turns : VolumeData → Phase → Transition → List Action → VolumeData → Type 0
Turns old left (turn.Stay asked) actions new = (actions ≡ asked.items) × (new ≡ at_phase old left)
Turns old left (turn.Enter next asked) actions new = (actions ≡ asked.items) × (new ≡ at_phase old next)
Turns old left (turn.End asked) actions new = (actions ≡ asked.items) × (new ≡ at_phase old phase.Idle)

-- one of the volume's nodes replies; a reply from elsewhere changes nothing
abbrev pub HearsNode : VolumeData → ℕ → Reply → List Action → VolumeData → Type 0
HearsNode old node told actions new =
    ((old.settings.nodes ≤ node) × (actions ≡ []) × (new ≡ old))
    ⊎ ((node < old.settings.nodes) × ((left : Phase) × (turn : Transition) × Hears old.settings old.phase node told left turn × Turns old left turn actions new))

abbrev pub RetriesNode : VolumeData → ℕ → List Action → VolumeData → Type 0
RetriesNode old node actions new =
    ((old.settings.nodes ≤ node) × (actions ≡ []) × (new ≡ old))
    ⊎ ((node < old.settings.nodes) × ((turn : Transition) × Retries old.settings old.phase node turn × Turns old old.phase turn actions new))

-- ---- events
abbrev pub IsVolumeStep : VolumeData → Event → List Action → VolumeData → Type 0
IsVolumeStep old event.Create actions new = Creates old actions new
IsVolumeStep old (event.Open generation) actions new = StartsOpening old generation actions new
IsVolumeStep old (event.Write page init patches) actions new = CallsOpen (λ w asked after. WritesPage w page init patches.items asked after) old old.phase actions new
IsVolumeStep old (event.Commit header) actions new = CallsOpen (λ w asked after. EndsTransaction w header.items asked after) old old.phase actions new
IsVolumeStep old (event.Advance reader point) actions new = CallsOpen (λ w asked after. RaisesPoint w reader point asked after) old old.phase actions new
IsVolumeStep old (event.Answered node told) actions new = HearsNode old node told actions new
IsVolumeStep old (event.Failed node) actions new = RetriesNode old node actions new
