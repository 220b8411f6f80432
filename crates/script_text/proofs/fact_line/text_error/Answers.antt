use Rattle.std.proofs.Common.{refl}
use Rattle.text.specs.Fields.{fields_in}
use Rattle.script_text.specs.FactLine.{head_numbers}
use Rattle.script_text.proofs.RecordLine.{more_than_six}
use Rattle.script_text.proofs.fact_line.text_error.Goals as goal

pub returns-in-Some : goal.returns-in-Some
returns-in-Some c = (
  refl,
  more_than_six (head_numbers c.args.head) (fields_in c.args.fields) c.args.text.now c.in-Some._word.now c.in-Some._behind.now c.requires.numbers
      c.in-Some.ensures.some,
)
