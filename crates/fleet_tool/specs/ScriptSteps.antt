-- The steps of the fleet that a script's steps ask for, and how a fleet answers them.
use Rattle.std.specs.Prelude.{◌≡◌, ℕ, ◌-◌, List, ◌∷◌, ◌++◌, slice_get, Some}
use Rattle.std.specs.List.{AllZip, AllByRecursion}
use Rattle.redo_core.specs.Sound.{IsSound}
use Rattle.redo_core.specs.declared.facts.Fact.{Fact}
use Rattle.script_steps.specs.Naming.{SameBut}
use Rattle.script_steps.specs.declared.steps.Step.{Step}
use Rattle.fleet_core.specs.Machine.{Machine}
use Rattle.fleet_core.specs.Replies.{HasCome}
use Rattle.fleet_core.specs.Runs.{AreReplies, MeansMachine}
use Rattle.fleet_core.specs.FleetState.{FleetState}
use Rattle.fleet_core.specs.declared.replies.Reply.{Reply}
use Rattle.fleet_tool.specs.Lines.{lines_of}

-- a take gives the node the fact at its index, counted from 1
abbrev pub IsStepOf : List Fact → Step ℕ → Step Fact → Type 0
IsStepOf facts asked step = SameBut (λ place fact. slice_get facts (place - 1) ≡ Some fact) asked step

-- the text is the answer lines of the machine to the steps
pub record IsAnswerText (roster : ℕ) (m : Machine) (facts : List Fact) (asked : List (Step ℕ)) (text : List ℕ) : Type 0 where
  pub steps : List (Step Fact)
  pub replies : List Reply
  pub stands_for : AllZip (IsStepOf facts) asked steps
  pub answered : AreReplies roster m steps replies
  pub came : AllByRecursion HasCome replies
  pub says : text ≡ lines_of asked replies

-- The text is a fleet's answers to steps that take their facts from a log: where the log is sound, those of each machine that the
-- fleet means.
abbrev pub AnswersSteps : FleetState → List Fact → List (Step ℕ) → List ℕ → Type 0
AnswersSteps fleet facts asked text = (roster : ℕ) (m : Machine) → IsSound roster facts → MeansMachine roster facts m fleet → IsAnswerText roster m facts asked text

-- the line is a fleet's answer to a step, and its answers to any later steps follow
abbrev pub AnswersStep : FleetState → List Fact → Step ℕ → List ℕ → FleetState → Type 0
AnswersStep old facts step line new = (others : List (Step ℕ)) (rest : List ℕ) → AnswersSteps new facts others rest
    → AnswersSteps old facts (step ∷ others) (line ++ rest)
