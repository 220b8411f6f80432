-- What the helpers of the reference model compute.
use Rattle.std.specs.Prelude.{ℕ, ◌≤◌, List, Option, Some, None}
use Rattle.redo_core.specs.Linked.{IsLinked}
use Rattle.redo_core.specs.declared.facts.Fact.{Fact}

-- the LSN is not above a limit, if there is one
abbrev pub IsUpToLimit : Option ℕ → ℕ → Type 0
IsUpToLimit None number = Unit {0}
IsUpToLimit (Some limit) number = number ≤ limit

-- the LSN is linked in a view and not above a limit
abbrev pub IsLinkedWithin : List Fact → ℕ → Option ℕ → ℕ → Type 0
IsLinkedWithin facts view limit number = IsLinked facts view number × IsUpToLimit limit number
