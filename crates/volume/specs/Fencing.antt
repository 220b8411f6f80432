-- An opening up to the first quorum that is fenced.
use Rattle.std.specs.Prelude.{◌≡◌, ℕ, ◌-◌, ◌<◌, ◌≤◌, ◌⊎◌, List, [], false, true, Option, Some, None, replicate, slice_set}
use Rattle.std.specs.List.{Contains}
use Rattle.segment_theorems.specs.State.{empty_state}
use Rattle.gossip_core.specs.Summarizing.{Summarizes}
use Rattle.guard.specs.declared.requests.AcceptedCut.{AcceptedCut}
use Rattle.guard.specs.declared.replies.Reply.{Reply}
use Rattle.guard.specs.declared.replies.Reply.TheVariants as reply
use Rattle.volume.specs.declared.actions.Action.{Action}
use Rattle.volume.specs.declared.actions.Fault.TheVariants.{Fenced, NoQuorum}
use Rattle.volume.specs.declared.errands.Errand.TheVariants.{Pull}
use Rattle.volume.specs.declared.errands.Query.TheVariants.{Fence}
use Rattle.volume.specs.declared.fencing.Fencing.{Fencing}
use Rattle.volume.specs.declared.phases.Opening.{Opening}
use Rattle.volume.specs.declared.phases.Phase.TheVariants as phase
use Rattle.volume.specs.declared.phases.Stage.TheVariants as stage
use Rattle.volume.specs.declared.turns.Transition.{Transition}
use Rattle.volume.specs.declared.turns.Transition.TheVariants as turn
use Rattle.volume.specs.Settings.{SettingsData}
use Rattle.volume.specs.Sets.{birth_at, count_marked, marks_of, no_nodes, no_births}
use Rattle.volume.specs.Asking.{asks_at, query_to}
use Rattle.volume.specs.Turning.{Stays, Enters, StopsWith}

-- an opening in which nobody has answered
abbrev pub new_fencing : ℕ → Fencing
new_fencing generation =
    record { generation = generation; births = no_births; pairs = replicate 15 None; fresh = no_births; lost = no_nodes }

-- ---- the first quorum
-- so many nodes are fenced as a quorum takes
abbrev pub IsFencedQuorum : SettingsData → List (Option ℕ) → Type 0
IsFencedQuorum s births = s.quorum ≤ count_marked (marks_of births)

-- the first pair is not above the second one, by generation and then by epoch
abbrev pub IsNotLater : AcceptedCut → AcceptedCut → Type 0
IsNotLater one other =
    (one.generation < other.generation) ⊎ ((one.generation ≡ other.generation) × (one.cut.epoch ≤ other.cut.epoch))

-- the first is later than the second one, or is the only one
abbrev pub IsLaterPair : Option AcceptedCut → Option AcceptedCut → Type 0
IsLaterPair None other = ⊥
IsLaterPair (Some one) None = Unit {0}
IsLaterPair (Some one) (Some other) =
    (other.generation < one.generation) ⊎ ((other.generation ≡ one.generation) × (other.cut.epoch < one.cut.epoch))

-- the greatest accepted truncation of those nodes; none where none of them has accepted any
abbrev pub IsGreatestPair : List (Option AcceptedCut) → Option AcceptedCut → Type 0
IsGreatestPair pairs None = (other : AcceptedCut) → Contains pairs (Some other) → ⊥
IsGreatestPair pairs (Some pair) =
    Contains pairs (Some pair) × ((other : AcceptedCut) → Contains pairs (Some other) → IsNotLater other pair)

-- the opening goes on with the fenced nodes as its quorum, and an empty union
pub record BeginsOpening (s : SettingsData) (f : Fencing) (o : Opening) : Type 0 where
  pub generation : o.session.generation ≡ f.generation
  pub births : o.session.births ≡ f.births
  pub quorum : o.session.quorum ≡ marks_of f.births
  pub pair : IsGreatestPair f.pairs o.pair
  pub fresh : o.fresh ≡ f.fresh
  pub union : o.union ≡ empty_state s.roster
  pub summary : Summarizes o.union o.summary
  pub asked : o.asked ≡ None
  pub stage : o.stage ≡ stage.Pulling (marks_of f.births)

-- and only now is any of them asked for what it has: the one that made the quorum whole
abbrev pub PullsQuorum : SettingsData → Fencing → ℕ → ℕ → Transition → Type 0
PullsQuorum s f node birth (turn.Enter (phase.Opening o) actions) =
    BeginsOpening s f o × (actions.items ≡ asks_at f.generation (Pull o.summary) node (Some birth))
PullsQuorum s f node birth other = ⊥

-- ---- replies
-- the opening where a node is fenced, and has accepted this truncation
abbrev pub with_fenced : Fencing → ℕ → ℕ → Option AcceptedCut → Fencing
with_fenced f node birth accepted = record {
  generation = f.generation;
  births = slice_set f.births node (Some birth);
  pairs = slice_set f.pairs node accepted;
  fresh = slice_set f.fresh node None;
  lost = slice_set f.lost node false;
}

abbrev pub HearsFenced : SettingsData → Fencing → ℕ → ℕ → Option AcceptedCut → Transition → Type 0
HearsFenced s old node birth accepted turn =
    let new = with_fenced old node birth accepted in
    (¬ (IsFencedQuorum s new.births) × Enters turn (phase.Fencing new) [])
    ⊎ (IsFencedQuorum s new.births × PullsQuorum s new node birth turn)

-- the opening where a node is fresh
abbrev pub with_fresh : Fencing → ℕ → ℕ → Fencing
with_fresh f node birth = record {
  generation = f.generation;
  births = slice_set f.births node None;
  pairs = slice_set f.pairs node None;
  fresh = slice_set f.fresh node (Some birth);
  lost = slice_set f.lost node true;
}

-- the opening where a node has failed, or cannot be fenced
abbrev pub without_node : Fencing → ℕ → Fencing
without_node f node = record { generation = f.generation; births = f.births; pairs = f.pairs; fresh = f.fresh; lost = slice_set f.lost node true }

-- it goes on while the nodes that are not lost can make a quorum
abbrev pub GoesOn : SettingsData → Fencing → Transition → List Action → Type 0
GoesOn s new turn actions =
    let left = s.nodes - count_marked new.lost in
    ((s.quorum ≤ left) × Enters turn (phase.Fencing new) actions)
    ⊎ ((left < s.quorum) × StopsWith turn (NoQuorum left s.quorum))

abbrev pub HearsStale : SettingsData → Fencing → ℕ → ℕ → Transition → Type 0
HearsStale s old node generation turn =
    ((old.generation < generation) × StopsWith turn (Fenced generation))
    ⊎ ((generation ≡ old.generation) × (birth_at old.births node ≡ None) × GoesOn s (without_node old node) turn [])
    ⊎ (((generation < old.generation) ⊎ ¬ (birth_at old.births node ≡ None)) × Stays turn [])

-- A reply names the generation that it answers; one for another generation changes nothing.
abbrev pub HearsFencing : SettingsData → Fencing → ℕ → Reply → Transition → Type 0
HearsFencing s old node (reply.Fenced generation birth accepted) turn =
    ((generation ≡ old.generation) × HearsFenced s old node birth accepted turn) ⊎ (¬ (generation ≡ old.generation) × Stays turn [])
HearsFencing s old node (reply.Fresh birth) turn = GoesOn s (with_fresh old node birth) turn []
HearsFencing s old node (reply.Stale generation) turn = HearsStale s old node generation turn
HearsFencing s old node other turn = Stays turn []

-- ---- a broken connection
abbrev pub RetriesFencing : SettingsData → Fencing → ℕ → Transition → Type 0
RetriesFencing s old node turn =
    (¬ (birth_at old.births node ≡ None) × Stays turn [])
    ⊎ ((birth_at old.births node ≡ None) × GoesOn s (without_node old node) turn (query_to (Fence old.generation) node))
