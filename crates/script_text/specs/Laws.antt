-- The laws that tie the reading functions to what lines and texts are.
use Rattle.std.specs.Prelude.{◌≡◌, ℕ, ◌≤◌, ◌↔◌, List, Some, None, Ok, Err}
use Rattle.redo_core.specs.declared.facts.Fact.{Fact}
use Rattle.script_steps.specs.declared.steps.Step.{Step}
use Rattle.script_text.specs.FactLine.{fact_of}
use Rattle.script_text.specs.StepLine.{step_of}
use Rattle.script_text.specs.Script.{ScriptData, Rostered, most, nodes_in_line, script_of, facts_of}
use Rattle.script_text.specs.Encoded.{EncodesFact, EncodesStep, IsLog, IsScript, Encodes, IsLeastBadLine}
use Rattle.script_text.specs.declared.reasons.LineReason.{LineReason}
use Rattle.script_text.specs.LineReasons.{ExplainsFact, ExplainsNodes, ExplainsStep}

-- A line is read as a fact exactly where it encodes it.
abbrev pub FactLinesAreEncoded : Type 0
FactLinesAreEncoded = (line : List ℕ) (fact : Fact) → (fact_of line ≡ Some fact) ↔ EncodesFact line fact

-- A line is read as a step exactly where it encodes it.
abbrev pub StepLinesAreEncoded : Type 0
StepLinesAreEncoded = (facts : ℕ) (line : List ℕ) (step : Step ℕ) → facts ≤ most → (step_of facts line ≡ Some step) ↔ EncodesStep facts line step

-- A text is read as a script exactly where its lines are that script.
abbrev pub ScriptsAreEncoded : Type 0
ScriptsAreEncoded = (text : List ℕ) (script : Rostered ScriptData) → (script_of text ≡ Ok script) ↔ Encodes IsScript text script

-- A text is read as a log exactly where its lines are that log.
abbrev pub LogsAreEncoded : Type 0
LogsAreEncoded = (text : List ℕ) (log : Rostered (List Fact)) → (facts_of text ≡ Ok log) ↔ Encodes IsLog text log

-- A bad line of a script is reported exactly where it is the least.
abbrev pub BadScriptLineIsLeast : Type 0
BadScriptLineIsLeast = (text : List ℕ) (at : ℕ) → (script_of text ≡ Err at) ↔ IsLeastBadLine IsScript text at

-- A bad line of a log is reported exactly where it is the least.
abbrev pub BadFactLineIsLeast : Type 0
BadFactLineIsLeast = (text : List ℕ) (at : ℕ) → (facts_of text ≡ Err at) ↔ IsLeastBadLine IsLog text at

-- A reason is true only of a line that is read as no fact.
abbrev pub FactReasonsAreOfBadLines : Type 0
FactReasonsAreOfBadLines = (line : List ℕ) (reason : LineReason) → ExplainsFact line reason → fact_of line ≡ None

-- The same of the line of the nodes.
abbrev pub NodesReasonsAreOfBadLines : Type 0
NodesReasonsAreOfBadLines = (line : List ℕ) (reason : LineReason) → ExplainsNodes line reason → nodes_in_line line ≡ None

-- And of steps.
abbrev pub StepReasonsAreOfBadLines : Type 0
StepReasonsAreOfBadLines = (facts : ℕ) (line : List ℕ) (reason : LineReason) → ExplainsStep facts line reason → step_of facts line ≡ None
