-- What the checker reports.
use Rattle.std.specs.Prelude.{◌≡◌, ◌≢◌, ℕ, ◌+◌, List, Option, Some, None}
use Rattle.redo_core.specs.Fault.{IsFirstFault}
use Rattle.redo_core.specs.declared.facts.Fact.{Fact}
use Rattle.redo_core.specs.declared.facts.Fact.TheVariants.{Record, Cut, Advance}
use Rattle.redo_core.specs.declared.laws.Law.{Law}
use Rattle.redo_core.specs.declared.laws.LawFault.{LawFault}
use Rattle.redo_core.specs.Sound.{Law2}
use Rattle.log_law.specs.declared.links.BrokenLink.{BrokenLink}
use Rattle.log_law.specs.declared.check.CheckFault.{CheckFault}
use Rattle.log_law.specs.declared.check.CheckFault.TheVariants.{Unsound, Memory}
use Rattle.log_law.specs.Links.{Judges}

-- the reported index counts from 1
abbrev pub Reports : ℕ → List Fact → LawFault → Type 0
Reports roster log fault = (place : ℕ) × (fault.place ≡ place + 1) × IsFirstFault roster log place fault.law

-- an unsound log is reported by its first fault; an allocation failure implies nothing about the log
abbrev pub ReportsFault : ℕ → List Fact → CheckFault → Type 0
ReportsFault roster log (Unsound fault) = Reports roster log fault
ReportsFault roster log Memory = Unit {0}

-- what is known of a record's backlinks, if it keeps law 2
abbrev pub LinkJudges : List Fact → Fact → Option Law → Type 0
LinkJudges log (Record r) answer = Law2 log (Record r) → Judges log r answer
LinkJudges log (Cut c) answer = Unit {0}
LinkJudges log (Advance a) answer = Unit {0}

-- the law of a broken link, at its own index
abbrev pub IsLawAt : Option BrokenLink → ℕ → Option Law → Type 0
IsLawAt None place answer = answer ≡ None
IsLawAt (Some b) place answer = (b.place ≡ place → answer ≡ Some b.law) × (b.place ≢ place → answer ≡ None)
