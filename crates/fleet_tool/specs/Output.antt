-- What the program writes for an input, and how it ends.
use Rattle.std.specs.Prelude.{◌≡◌, ℕ, ◌+◌, ◌⊎◌, List, length, ◌++◌, Result, Ok, Err, codes}
use Rattle.std.specs.Fmt.{decimal}
use Rattle.redo_core.specs.Sound.{IsSound}
use Rattle.redo_core.specs.Fault.{IsFirstFault, law_number}
use Rattle.redo_core.specs.declared.facts.Fact.{Fact}
use Rattle.redo_core.specs.declared.laws.Law.{Law}
use Rattle.fleet_core.specs.Machine.{empty_machine}
use Rattle.script_text.specs.Script.{ScriptData, Rostered, script_of, facts_of}
use Rattle.fleet_tool.specs.ScriptSteps.{IsAnswerText}
use Rattle.fleet_tool.specs.Inspect.{inspected}
use Rattle.fleet_tool.specs.declared.answer.Verdict.{Verdict}
use Rattle.fleet_tool.specs.declared.answer.Verdict.TheVariants.{Done, BadLine, Unsound}
use Rattle.fleet_tool.specs.declared.job.TextTask.{TextTask}
use Rattle.fleet_tool.specs.declared.job.TextTask.TheVariants.{Run, Check, Inspect}

-- the text names the bad line
abbrev pub SaysBadLine : ℕ → List ℕ → Verdict → Type 0
SaysBadLine at text verdict = (text ≡ codes "bad line " ++ (decimal at ++ codes "\n")) × (verdict ≡ BadLine)

-- the text names the first fault of the log: its index, counted from 1, and its law
pub record SaysUnsound (roster : ℕ) (facts : List Fact) (text : List ℕ) (verdict : Verdict) : Type 0 where
  pub place : ℕ
  pub law : Law
  pub fault : IsFirstFault roster facts place law
  pub says : text ≡ codes "unsound " ++ (decimal (place + 1) ++ (codes " law " ++ (decimal (law_number law) ++ codes "\n")))
  pub ends : verdict ≡ Unsound

-- the text is the answers of a fleet of the script's nodes to its steps
pub record SaysReplies (roster : ℕ) (script : ScriptData) (text : List ℕ) (verdict : Verdict) : Type 0 where
  pub sound : IsSound roster script.facts
  pub says : IsAnswerText roster (empty_machine script.nodes) script.facts script.steps text
  pub ends : verdict ≡ Done

-- the text gives the number of facts
pub record SaysSound (roster : ℕ) (facts : List Fact) (text : List ℕ) (verdict : Verdict) : Type 0 where
  pub sound : IsSound roster facts
  pub says : text ≡ codes "sound " ++ (decimal (length facts) ++ codes "\n")
  pub ends : verdict ≡ Done

-- a script that was read, or its bad line: bad lines come before soundness, and soundness before any step
abbrev pub IsRunOutput : Result (Rostered ScriptData) ℕ → List ℕ → Verdict → Type 0
IsRunOutput (Err at) text verdict = SaysBadLine at text verdict
IsRunOutput (Ok script) text verdict = SaysUnsound script.roster script.said.facts text verdict ⊎ SaysReplies script.roster script.said text verdict

-- a log that was read, or its bad line
abbrev pub IsCheckOutput : Result (Rostered (List Fact)) ℕ → List ℕ → Verdict → Type 0
IsCheckOutput (Err at) text verdict = SaysBadLine at text verdict
IsCheckOutput (Ok log) text verdict = SaysUnsound log.roster log.said text verdict ⊎ SaysSound log.roster log.said text verdict

-- the description of the input, whatever it says
abbrev pub IsInspectOutput : List ℕ → List ℕ → Verdict → Type 0
IsInspectOutput input text verdict = (text ≡ inspected input) × (verdict ≡ Done)

-- what a task writes for an input, and how it ends
abbrev pub IsOutputOf : TextTask → List ℕ → List ℕ → Verdict → Type 0
IsOutputOf Run input text verdict = IsRunOutput (script_of input) text verdict
IsOutputOf Check input text verdict = IsCheckOutput (facts_of input) text verdict
IsOutputOf Inspect input text verdict = IsInspectOutput input text verdict
