-- From what a text says to the output of its input.
use Rattle.std.proofs.Common.{◌≡◌, ℕ, inl, inr, List, length, ◌++◌, Option, Some, None, Result, Ok, Err, codes, string_bytes}
use Rattle.std.specs.Prelude.{IfOk, MatchOption}
use Rattle.std.specs.Fmt.{decimal}
use Rattle.redo_core.specs.Sound.{IsSound}
use Rattle.redo_core.specs.declared.facts.Fact.{Fact}
use Rattle.script_text.specs.Script.{ScriptData, Rostered}
use Rattle.fleet_tool.specs.Explaining.{log_of, HasSoundLog, IsUnsoundReason, IsTrueReason}
use Rattle.fleet_tool.specs.declared.explaining.Reason.{Reason}
use Rattle.fleet_tool.specs.declared.explaining.Reason.TheVariants.{BadLine, Unsound}
use Rattle.fleet_tool.specs.declared.job.LinesTask.{LinesTask}
use Rattle.fleet_tool.specs.Output.{SaysUnsound, SaysReplies, IsRunOutput, IsCheckOutput}
use Rattle.fleet_tool.specs.declared.answer.Answered.{Answered}
use Rattle.fleet_tool.specs.declared.answer.Verdict.TheVariants.{Done}

pub check_unsound : {E : Type 0} (read : Result (Rostered (List Fact)) ℕ) (log : Rostered (List Fact)) (r : Result Answered E) → read ≡ Ok log
    → IfOk r (λ a. SaysUnsound log.roster log.said (string_bytes a.text) a.verdict) → IfOk r (λ a. IsCheckOutput read (string_bytes a.text) a.verdict)
check_unsound read log (Ok a) e h = rw e (inl h)
check_unsound read log (Err x) e h = tt

pub check_sound : {E : Type 0} (read : Result (Rostered (List Fact)) ℕ) (log : Rostered (List Fact)) (r : Result Answered E) → read ≡ Ok log
    → IsSound log.roster log.said → IfOk r (λ a. string_bytes a.text ≡ codes "sound " ++ (decimal (length log.said) ++ codes "\n"))
    → IfOk r (λ a. a.verdict ≡ Done)
    → IfOk r (λ a. IsCheckOutput read (string_bytes a.text) a.verdict)
check_sound read log (Ok a) e s t v = rw e (inr (record { sound = s; says = t; ends = v }))
check_sound read log (Err x) e s t v = tt

pub run_unsound : {E : Type 0} (read : Result (Rostered ScriptData) ℕ) (script : Rostered ScriptData) (r : Result Answered E) → read ≡ Ok script
    → IfOk r (λ a. SaysUnsound script.roster (script.said).facts (string_bytes a.text) a.verdict)
    → IfOk r (λ a. IsRunOutput read (string_bytes a.text) a.verdict)
run_unsound read script (Ok a) e h = rw e (inl h)
run_unsound read script (Err x) e h = tt

pub run_replies : {E : Type 0} (read : Result (Rostered ScriptData) ℕ) (script : Rostered ScriptData) (r : Result Answered E) → read ≡ Ok script
    → IfOk r (λ a. SaysReplies script.roster script.said (string_bytes a.text) a.verdict) → IfOk r (λ a. IsRunOutput read (string_bytes a.text) a.verdict)
run_replies read script (Ok a) e h = rw e (inr h)
run_replies read script (Err x) e h = tt

-- ---- reasons

pub sound_reason : {E : Type 0} (task : LinesTask) (text : List ℕ) (log : Rostered (List Fact)) (r : Result Answered E) → log_of task text ≡ Ok log
    → IsSound log.roster log.said → IfOk r (λ a. a.reason ≡ None) → IfOk r (λ a. MatchOption a.reason (HasSoundLog task text) (IsTrueReason task text))
sound_reason task text log (Ok a) e sound is = rw is (log, e, sound)
sound_reason task text log (Err x) e sound is = tt

-- the reason of a fault, where one was found
fault_is : (task : LinesTask) (text : List ℕ) (log : Rostered (List Fact)) (o : Option Reason) → log_of task text ≡ Ok log
    → MatchOption o (IsSound log.roster log.said) (IsUnsoundReason log) → MatchOption o (HasSoundLog task text) (IsTrueReason task text)
fault_is task text log None e sound = (log, e, sound)
fault_is task text log (Some (BadLine at reason)) e h = absurd h
fault_is task text log (Some (Unsound fault breach)) e h = (log, e, h)

pub unsound_reason : {E : Type 0} (task : LinesTask) (text : List ℕ) (log : Rostered (List Fact)) (o : Option Reason) (r : Result Answered E) → log_of task text ≡ Ok log
    → MatchOption o (IsSound log.roster log.said) (IsUnsoundReason log) → IfOk r (λ a. a.reason ≡ o)
    → IfOk r (λ a. MatchOption a.reason (HasSoundLog task text) (IsTrueReason task text))
unsound_reason task text log o (Ok a) e h is = rw is (fault_is task text log o e h)
unsound_reason task text log o (Err x) e h is = tt
