-- How the program ends: its exit status, and what it says on standard error.
use Rattle.std.specs.Prelude.{ℕ, List, Result, Ok, Err, codes}
use Rattle.framing.specs.declared.devices.fault.RunFault.{RunFault}
use Rattle.framing.specs.declared.devices.fault.RunFault.TheVariants.{Input, Output, Memory}

-- 0 the end of the input, 4 a device that failed, 5 no memory
abbrev pub status_of : Result (Unit {0}) RunFault → ℕ
status_of (Ok u) = 0
status_of (Err Input) = 4
status_of (Err Output) = 4
status_of (Err Memory) = 5

-- nothing at the end of the input
abbrev pub words_of : Result (Unit {0}) RunFault → List ℕ
words_of (Ok u) = codes ""
words_of (Err Input) = codes "input failed"
words_of (Err Output) = codes "output failed"
words_of (Err Memory) = codes "out of memory"
