use Rattle.std.proofs.Common.{◌++◌, ℕ, List, drop, string_bytes}
use Rattle.fleet_tool.specs.ScriptSteps.{AnswersSteps}
use Rattle.fleet_tool.proofs.placed_steps.answers.Given as goal

-- with the answers to the steps that are left, the text is the answers to all
abbrev pub invariant-loop-step : goal.invariant-loop-step
invariant-loop-step l = (rest : List ℕ) → AnswersSteps l.fleet l.facts (drop l.step-index l.steps) rest
    → AnswersSteps l.fn.fleet l.facts l.steps (string_bytes l.text ++ rest)
