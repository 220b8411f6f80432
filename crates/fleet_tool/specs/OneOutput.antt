-- An input has one output.
use Rattle.std.specs.Prelude.{◌≡◌, ℕ, List}
use Rattle.fleet_tool.specs.Output.{IsOutputOf}
use Rattle.fleet_tool.specs.declared.answer.Verdict.{Verdict}
use Rattle.fleet_tool.specs.declared.job.TextTask.{TextTask}

-- What a task writes for an input, and how it ends, are fixed by the input.
abbrev pub OneOutput : Type 0
OneOutput =
    (task : TextTask) (input text other : List ℕ) (verdict another : Verdict)
    → IsOutputOf task input text verdict → IsOutputOf task input other another → (text ≡ other) × (verdict ≡ another)
