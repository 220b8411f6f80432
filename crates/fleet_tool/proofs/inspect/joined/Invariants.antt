use Rattle.std.proofs.Common.{◌≡◌, string_bytes}
use Rattle.fleet_tool.specs.Inspect.{texts_bytes}
use Rattle.fleet_tool.proofs.inspect.joined.Given as goal

-- those so far
abbrev pub invariant-loop-text : goal.invariant-loop-text
invariant-loop-text l = string_bytes l.all ≡ texts_bytes l.yielded
