-- Why a text names a bad line, or a fault of its log.
use Rattle.std.specs.Prelude.{◌≡◌, ℕ, List, Result, Ok, Err}
use Rattle.redo_core.specs.Sound.{IsSound}
use Rattle.redo_core.specs.declared.facts.Fact.{Fact}
use Rattle.log_law.specs.Report.{Reports}
use Rattle.log_law.specs.Breach.{ReportsBreach}
use Rattle.script_text.specs.Script.{ScriptData, Rostered, rostered, script_of, facts_of}
use Rattle.script_text.specs.TextReasons.{ExplainsScript, ExplainsLog}
use Rattle.script_text.specs.declared.reasons.TextReason.{TextReason}
use Rattle.fleet_tool.specs.declared.explaining.Reason.{Reason}
use Rattle.fleet_tool.specs.declared.explaining.Reason.TheVariants.{BadLine, Unsound}
use Rattle.fleet_tool.specs.declared.job.LinesTask.{LinesTask}
use Rattle.fleet_tool.specs.declared.job.LinesTask.TheVariants.{Run, Check}

-- the log of a script
abbrev pub script_log : Result (Rostered ScriptData) ℕ → Result (Rostered (List Fact)) ℕ
script_log (Ok script) = Ok (rostered script.roster (script.said).facts)
script_log (Err at) = Err at

-- the log that a text of the task encodes, or its bad line
abbrev pub log_of : LinesTask → List ℕ → Result (Rostered (List Fact)) ℕ
log_of Run text = script_log (script_of text)
log_of Check text = facts_of text

-- a text of the task is read, and its log is sound
abbrev pub HasSoundLog : LinesTask → List ℕ → Type 0
HasSoundLog task text = (log : Rostered (List Fact)) × (log_of task text ≡ Ok log) × IsSound log.roster log.said

-- the reason is true of that line of a text of the task
abbrev pub Explains : LinesTask → List ℕ → ℕ → TextReason → Type 0
Explains Run text at reason = ExplainsScript text at reason
Explains Check text at reason = ExplainsLog text at reason

-- the reason names the first fault of a log, and the evidence of how it breaks its law
abbrev pub IsUnsoundReason : Rostered (List Fact) → Reason → Type 0
IsUnsoundReason log (BadLine at reason) = ⊥
IsUnsoundReason log (Unsound fault breach) = Reports log.roster log.said fault × ReportsBreach log.roster log.said fault breach

-- the reason names the text's bad line, and is true of it; or its log's first fault
abbrev pub IsTrueReason : LinesTask → List ℕ → Reason → Type 0
IsTrueReason task text (BadLine at reason) = (log_of task text ≡ Err at) × Explains task text at reason
IsTrueReason task text (Unsound fault breach) = (log : Rostered (List Fact)) × (log_of task text ≡ Ok log) × IsUnsoundReason log (Unsound fault breach)
