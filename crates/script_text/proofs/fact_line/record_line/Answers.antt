use Rattle.std.proofs.Common.{sym, ◌∙◌}
use Rattle.script_text.proofs.PatchEncoding.{record_is_field}
use Rattle.script_text.proofs.RecordLine.{record_is}
use Rattle.script_text.proofs.fact_line.record_line.Goals as goal

pub returns-in-Ok-clause-fact : goal.returns-in-Ok-clause-fact
returns-in-Ok-clause-fact c =
    let one = record_is_field c.in-Some.head c.in-Some.text.now c.in-Ok.fact c.in-Ok.ensures.fact in
    record_is c.in-Some.head _ c.in-Some.text.now (sym c.in-Some.ensures) one ∙ c.in-Ok.ensures.fact
