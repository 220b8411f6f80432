-- What a scan of a list of facts has seen of one fact.
use Rattle.std.proofs.Common.{◌≡◌, ◌≢◌, ℕ, ◌<◌, ◌≤◌, List, Option}
use Rattle.std.specs.List.{Contains}
use Rattle.redo_core.specs.Data.{RecordData, CutData}
use Rattle.redo_core.specs.Sets.{cuts, advances}
use Rattle.redo_core.specs.Standing.{IsAlive, SparesIn}
use Rattle.redo_core.specs.Linked.{IsLinked}
use Rattle.redo_core.specs.Past.{ArePast}
use Rattle.redo_core.specs.Sound.{counted, SameKey}
use Rattle.redo_core.specs.declared.facts.Fact.{Fact}
use Rattle.redo_core.specs.declared.facts.Fact.TheVariants.{Record, Cut, Advance}
use Rattle.reference_model.specs.declared.chains.Chain.{Chain}
use Rattle.reference_model.specs.Chained.{IsBelowOn}
use Rattle.reference_model.specs.PageRecords.{StandsInPage}
use Rattle.reference_model.specs.Helpers.{IsLinkedWithin}

-- the fact is no truncation of this epoch
abbrev pub IsOther : ℕ → Fact → Type 0
IsOther epoch (Record r) = Unit {0}
IsOther epoch (Cut c) = c.epoch ≢ epoch
IsOther epoch (Advance a) = Unit {0}

-- the fact is no advance of the reader, of an epoch up to this one, with a point above this one
abbrev pub IsUpTo : ℕ → ℕ → ℕ → Fact → Type 0
IsUpTo epoch reader point (Record r) = Unit {0}
IsUpTo epoch reader point (Cut c) = Unit {0}
IsUpTo epoch reader point (Advance a) = a.reader ≡ reader → a.epoch ≤ epoch → a.point ≤ point

-- the fact is no advance by which the reader is past a truncation
abbrev pub LeavesBehind : CutData → ℕ → Fact → Type 0
LeavesBehind c reader (Record r) = Unit {0}
LeavesBehind c reader (Cut d) = Unit {0}
LeavesBehind c reader (Advance a) = a.reader ≡ reader → a.epoch < c.epoch → c.lo < a.point → ⊥

abbrev pub IsSpared : ℕ → ℕ → ℕ → Fact → Type 0
IsSpared view epoch number (Record r) = Unit {0}
IsSpared view epoch number (Cut c) = SparesIn view epoch number c
IsSpared view epoch number (Advance a) = Unit {0}

-- the fact is no record that links this LSN
abbrev pub LinksNot : List Fact → ℕ → ℕ → Fact → Type 0
LinksNot facts view number (Record r) = r.number ≡ number → IsAlive (cuts facts) view r.epoch number → IsLinked facts view r.back → ⊥
LinksNot facts view number (Cut c) = Unit {0}
LinksNot facts view number (Advance a) = Unit {0}

-- the fact is no record that is linked above an LSN, up to a limit
abbrev pub LinksUpTo : List Fact → ℕ → Option ℕ → ℕ → Fact → Type 0
LinksUpTo facts view limit top (Record r) = IsLinkedWithin facts view limit r.number → r.number ≤ top
LinksUpTo facts view limit top (Cut c) = Unit {0}
LinksUpTo facts view limit top (Advance a) = Unit {0}

-- an effective truncation spares a record in a view
abbrev pub IsSparedIfCounted : List Fact → ℕ → ℕ → ℕ → Fact → Type 0
IsSparedIfCounted log view epoch number (Record r) = Unit {0}
IsSparedIfCounted log view epoch number (Cut c) = Contains (counted log) c → SparesIn view epoch number c
IsSparedIfCounted log view epoch number (Advance a) = Unit {0}

-- an effective truncation of a later epoch does not cut below a point where all readers are past it
abbrev pub IsAboveIfCounted : ℕ → List Fact → ℕ → ℕ → Fact → Type 0
IsAboveIfCounted roster log epoch point (Record r) = Unit {0}
IsAboveIfCounted roster log epoch point (Cut c) = Contains (counted log) c → epoch < c.epoch → ArePast roster (advances log) c → point ≤ c.lo
IsAboveIfCounted roster log epoch point (Advance a) = Unit {0}

-- the fact is no record below r on a chain with an LSN above this one
abbrev pub IsBelowUpTo : List Fact → RecordData → Chain → ℕ → Fact → Type 0
IsBelowUpTo log r chain top (Record s) = IsBelowOn log r chain s → s.number ≤ top
IsBelowUpTo log r chain top (Cut c) = Unit {0}
IsBelowUpTo log r chain top (Advance a) = Unit {0}

-- the fact is this one where it has its key
abbrev pub IsSameOfKey : Fact → Fact → Type 0
IsSameOfKey fact f = SameKey f fact → f ≡ fact

-- the fact is no record of the page from an LSN on, unless its LSN is reached
abbrev pub IsReached : List Fact → ℕ → ℕ → ℕ → ℕ → (ℕ → Type 0) → Fact → Type 0
IsReached facts k g from q Reached (Record s) = StandsInPage facts k g q s → from ≤ s.number → Reached s.number
IsReached facts k g from q Reached (Cut c) = Unit {0}
IsReached facts k g from q Reached (Advance a) = Unit {0}
