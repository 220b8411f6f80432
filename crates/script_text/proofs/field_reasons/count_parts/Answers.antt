use Rattle.std.proofs.Common.{◌≡◌, ◌+◌, ℕ, List, eqb, take, sym, ap, ◌∙◌, arith}
use Rattle.std.proofs.lemmas.List.{take_all}
use Rattle.std.specs.List.{count_by}
use Rattle.script_text.proofs.Faults.{many_parts}
use Rattle.script_text.proofs.field_reasons.count_parts.Goals as goal

pub returns : goal.returns
returns c =
    let all : take c.loop-byte.byte-index c.args.text.now ≡ c.args.text.now = take_all c.loop-byte.byte-index c.args.text.now (omega (arith, c.loop-byte-test.false)) in
    c.loop-byte.invariant.so_far ∙ ap (λ (t : List ℕ). count_by (λ b. eqb b c.args.separator) t + 1) all ∙ sym (many_parts c.args.separator c.args.text.now)
