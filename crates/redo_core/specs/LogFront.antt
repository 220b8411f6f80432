-- The fronts of a whole log, which threads send each other.
use Rattle.std.specs.Prelude.{◌≡◌, ℕ, ◌<◌, ◌≤◌, ◌⊎◌, List}
use Rattle.redo_core.specs.Sets.{cuts}
use Rattle.redo_core.specs.CompleteEpoch.{HasCutsTo}
use Rattle.redo_core.specs.Linked.{IsLinked}
use Rattle.redo_core.specs.declared.facts.Fact.{Fact}

-- (k, n) is a front of the log: it has the truncations 1 to k, and n is linked in its view k. The log's own page there is `IsPageAt log k`.
abbrev pub IsLogFront : List Fact → ℕ → ℕ → Type 0
IsLogFront log k n = HasCutsTo (cuts log) k × IsLinked log k n

-- fronts in order: by epoch, then by LSN
abbrev pub FrontAtMost : ℕ → ℕ → ℕ → ℕ → Type 0
FrontAtMost k n k' n' = (k < k') ⊎ ((k ≡ k') × (n ≤ n'))
