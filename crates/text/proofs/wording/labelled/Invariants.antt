use Rattle.std.proofs.Common.{◌≡◌, ◌++◌, take, string_bytes}
use Rattle.std.specs.List.{flat_map}
use Rattle.std.specs.Fmt.{decimal}
use Rattle.text.proofs.wording.labelled.Given as goal

-- the numbers so far stand behind their labels
abbrev pub invariant-loop-label : goal.invariant-loop-label
invariant-loop-label l = string_bytes l.text ≡ flat_map (λ p. p.0.now ++ decimal p.1) (take l.label-index l.numbers)
