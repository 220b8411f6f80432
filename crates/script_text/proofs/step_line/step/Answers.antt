use Rattle.std.proofs.Common.{◌≡◌, arith}
use Rattle.std.proofs.lemmas.Grind.{common_steps}
use Rattle.text.specs.Parts.{parts_at}
use Rattle.text.specs.Fields.{made_by}
use Rattle.script_text.specs.StepLine.{take_form, step_of}
use Rattle.script_text.proofs.Words.{take_is_first}
use Rattle.script_text.proofs.step_line.step.Goals as goal

pub returns-in-Some-clause-step : goal.returns-in-Some-clause-step
returns-in-Some-clause-step c =
    let is : step_of c.args.facts c.args.line.now ≡ made_by (take_form c.args.facts) (parts_at 32 c.in-Some.fields.now) = grind (arith, common_steps, take_is_first) in
    rw is c.take.ensures.step
