-- Whole runs of the fleet machine, and the fleets that follow it.
use Rattle.std.specs.Prelude.{◌≡◌, ℕ, List, [], ◌∷◌}
use Rattle.std.specs.List.{Contains, AllZip, AllByRecursion}
use Rattle.redo_core.specs.Sound.{IsSound}
use Rattle.redo_core.specs.declared.facts.Fact.{Fact}
use Rattle.segment_theorems.specs.Means.{Means}
use Rattle.script_steps.specs.Naming.{NamedIs}
use Rattle.script_steps.specs.declared.steps.Step.{Step}
use Rattle.fleet_core.specs.declared.replies.Reply.{Reply}
use Rattle.fleet_core.specs.Machine.{Machine, after}
use Rattle.fleet_core.specs.Replies.{IsReply}
use Rattle.fleet_core.specs.FleetState.{FleetState}
use Rattle.fleet_core.specs.Messages.{AreMade}

-- what a step takes is in the log
abbrev pub TakesFrom : List Fact → Step Fact → Type 0
TakesFrom log step = NamedIs (Contains log) step

-- the replies to all steps, in order, from this machine on
abbrev pub AreReplies : ℕ → Machine → List (Step Fact) → List Reply → Type 0
AreReplies roster m [] [] = Unit {0}
AreReplies roster m [] (reply ∷ replies) = ⊥
AreReplies roster m (step ∷ steps) [] = ⊥
AreReplies roster m (step ∷ steps) (reply ∷ replies) = IsReply roster m step reply × AreReplies roster (after m step reply) steps replies

-- the machine after all steps
abbrev pub after_all : Machine → List (Step Fact) → List Reply → Machine
after_all m [] replies = m
after_all m (step ∷ steps) [] = m
after_all m (step ∷ steps) (reply ∷ replies) = after_all (after m step reply) steps replies

-- the fleet is of the roster, each segment means its node's facts, and each message is of the machine's
pub record MeansMachine (roster : ℕ) (log : List Fact) (m : Machine) (fleet : FleetState) : Type 0 where
  pub roster_is : fleet.roster ≡ roster
  pub nodes : AllZip (λ facts segment. Means roster log facts segment) m.nodes fleet.segments
  pub messages : AreMade roster log m.messages fleet.messages

-- One step: where the fleet means the machine, the reply is the machine's, and it means the machine's next state.
abbrev pub FollowsStep : FleetState → Step Fact → Reply → FleetState → Type 0
FollowsStep old step reply new =
    (roster : ℕ) (log : List Fact) (m : Machine) → IsSound roster log → TakesFrom log step → MeansMachine roster log m old
    → IsReply roster m step reply × MeansMachine roster log (after m step reply) new

-- A whole run, likewise: this is the headline.
abbrev pub FollowsMachine : FleetState → List (Step Fact) → List Reply → FleetState → Type 0
FollowsMachine old steps replies new =
    (roster : ℕ) (log : List Fact) (m : Machine) → IsSound roster log → AllByRecursion (TakesFrom log) steps → MeansMachine roster log m old
    → AreReplies roster m steps replies × MeansMachine roster log (after_all m steps replies) new
