use Rattle.std.proofs.Common.{rules, arith}
use Rattle.std.proofs.lemmas.Grind.{common_steps}
use Rattle.script_text.proofs.PatchWords.{wide_fill}
use Rattle.script_text.proofs.patch_reasons.patch_fault.Goals as goal

pub returns : goal.returns
returns c = search (rules, wide_fill)

pub returns-then-is_empty : goal.returns-then-is_empty
returns-then-is_empty c = grind (arith, common_steps)

pub returns-in_default-2 : goal.returns-in_default-2
returns-in_default-2 c = grind (arith, common_steps)
