use Rattle.std.proofs.Common.{arith}
use Rattle.std.proofs.lemmas.Grind.{common_steps}
use Rattle.script_text.proofs.PatchWords.{starred}
use Rattle.script_text.proofs.patch_reasons.is_place.Goals as goal

pub returns-then-is_some : goal.returns-then-is_some
returns-then-is_some c = starred c.args.word.now c.in-Some.offset.now c.in-Some.len.now c.is_some-then-is_some.result c.in-Some.ensures.some
    (grind (arith, common_steps))
