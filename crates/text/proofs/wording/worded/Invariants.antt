use Rattle.std.proofs.Common.{◌≡◌, ◌∷◌, ◌++◌, take, string_bytes}
use Rattle.std.specs.List.{flat_map}
use Rattle.std.specs.Fmt.{decimal}
use Rattle.text.proofs.wording.worded.Given as goal

-- the numbers so far stand behind the word
abbrev pub invariant-loop-number : goal.invariant-loop-number
invariant-loop-number l = string_bytes l.text ≡ l.fn.word ++ flat_map (λ n. 32 ∷ decimal n) (take l.number-index l.numbers)
