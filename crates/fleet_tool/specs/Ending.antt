-- How the program ends: its exit status, and what it says on standard error.
use Rattle.std.specs.Prelude.{ℕ, List, Result, Ok, Err, codes}
use Rattle.fleet_tool.specs.declared.answer.Verdict.{Verdict}
use Rattle.fleet_tool.specs.declared.answer.Verdict.TheVariants.{Done, BadLine, Unsound}
use Rattle.framing.specs.declared.devices.fault.RunFault.{RunFault}
use Rattle.framing.specs.declared.devices.fault.RunFault.TheVariants.{Input, Output, Memory}

-- 0 done, 2 a bad line, 3 a log that is not sound, 4 a device that failed, 5 out of memory
abbrev pub status_of : Result Verdict RunFault → ℕ
status_of (Ok Done) = 0
status_of (Ok BadLine) = 2
status_of (Ok Unsound) = 3
status_of (Err Input) = 4
status_of (Err Output) = 4
status_of (Err Memory) = 5

-- why there is no answer; nothing where there is one, whatever it says
abbrev pub words_of : Result Verdict RunFault → List ℕ
words_of (Ok verdict) = codes ""
words_of (Err Input) = codes "input failed"
words_of (Err Output) = codes "output failed"
words_of (Err Memory) = codes "out of memory"
