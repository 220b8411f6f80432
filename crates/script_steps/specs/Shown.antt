-- The bytes that reads yield.
use Rattle.std.specs.Prelude.{◌+◌, ◌≤◌}
use Rattle.script_steps.specs.declared.steps.Step.{Step}
use Rattle.script_steps.specs.declared.steps.Step.TheVariants.{Read}

-- a read yields bytes inside the page
abbrev pub ShowsInside : {F : Type 0} → Step F → Type 0
ShowsInside (Read node page point offset len) = offset + len ≤ 4096
ShowsInside step = Unit {0}
