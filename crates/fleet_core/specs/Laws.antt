-- The laws of the fleet machine, and of the fleets that follow it.
use Rattle.std.specs.Prelude.{◌≡◌, ℕ, List, [], ◌∷◌, ◌++◌}
use Rattle.std.specs.List.{AllByRecursion}
use Rattle.redo_core.specs.Sets.{IsPart}
use Rattle.redo_core.specs.Sound.{IsSound}
use Rattle.redo_core.specs.declared.facts.Fact.{Fact}
use Rattle.script_steps.specs.declared.steps.Step.{Step}
use Rattle.fleet_core.specs.declared.replies.Reply.{Reply}
use Rattle.fleet_core.specs.Machine.{Message, Machine}
use Rattle.fleet_core.specs.Machine.Message.{Asked, Answered}
use Rattle.fleet_core.specs.Replies.{IsReply, HasCome}
use Rattle.fleet_core.specs.Runs.{TakesFrom, AreReplies, FollowsStep, FollowsMachine}
use Rattle.fleet_core.specs.Calls.{StepCalls, RunCalls}
use Rattle.fleet_core.specs.FleetState.{FleetState}
use Rattle.fleet_core.specs.declared.making.Made.{Made}

-- the facts that a message speaks of are of the log
abbrev pub IsMessageOf : List Fact → Message → Type 0
IsMessageOf log (Asked asked) = IsPart asked log
IsMessageOf log (Answered asked facts) = IsPart asked log × IsPart facts log

-- so are each node's facts
pub record IsMachineOf (log : List Fact) (m : Machine) : Type 0 where
  pub nodes : AllByRecursion (λ facts. IsPart facts log) m.nodes
  pub messages : AllByRecursion (IsMessageOf log) m.messages

-- A step that was carried out has one reply.
abbrev pub OneReply : Type 0
OneReply =
    (roster : ℕ) (log : List Fact) (m : Machine) (step : Step Fact) (reply other : Reply)
    → IsSound roster log → IsMachineOf log m → IsReply roster m step reply → IsReply roster m step other → HasCome reply → HasCome other → reply ≡ other

-- So has each script.
abbrev pub OneRun : Type 0
OneRun =
    (roster : ℕ) (log : List Fact) (m : Machine) (steps : List (Step Fact)) (replies others : List Reply)
    → IsSound roster log → IsMachineOf log m → AllByRecursion (TakesFrom log) steps
    → AreReplies roster m steps replies → AreReplies roster m steps others → AllByRecursion HasCome replies → AllByRecursion HasCome others → replies ≡ others

-- A run of no steps is one, and a run with one step more is one, however its steps came.
pub record RunsGoOn : Type 0 where
  pub begins : (fleet : FleetState) → FollowsMachine fleet [] [] fleet
  pub goes_on :
      (start old new : FleetState) (steps : List (Step Fact)) (replies : List Reply) (step : Step Fact) (reply : Reply)
      → FollowsMachine start steps replies old → FollowsStep old step reply new → FollowsMachine start (steps ++ step ∷ []) (replies ++ reply ∷ []) new

-- The same of the calls of a run, over any facts.
pub record CallsGoOn : Type 0 where
  pub begins : (fleet : FleetState) → RunCalls fleet [] [] fleet
  pub goes_on :
      (start old new : FleetState) (steps : List (Step Fact)) (replies : List Reply) (step : Step Fact) (reply : Reply)
      → RunCalls start steps replies old → StepCalls old step reply new → RunCalls start (steps ++ step ∷ []) (replies ++ reply ∷ []) new

-- No step takes a message away or changes one, over any facts: those that there were stay, at their numbers.
abbrev pub MessagesStay : Type 0
MessagesStay =
    (old new : FleetState) (step : Step Fact) (reply : Reply) → StepCalls old step reply new → (more : List Made) × (new.messages ≡ old.messages ++ more)
