use Rattle.std.proofs.Common.{◌≡◌, ◌++◌, length, string_bytes}
use Rattle.text.specs.Parts.{parts_at}
use Rattle.fleet_tool.specs.Inspect.{parts_text}
use Rattle.fleet_tool.proofs.inspect.lines_text.Given as goal

-- the description so far, and that of the rest
abbrev pub invariant-loop-line : goal.invariant-loop-line
invariant-loop-line l = string_bytes l.text ++ parts_text (parts_at 10 l.rest) ≡ parts_text (parts_at 10 l.input)

abbrev pub decreases-loop-line : goal.decreases-loop-line
decreases-loop-line l = length l.rest
