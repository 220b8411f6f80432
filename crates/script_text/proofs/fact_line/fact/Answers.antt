use Rattle.std.proofs.Common.{◌≡◌, ◌∷◌, codes, arith, rules}
use Rattle.std.proofs.lemmas.Grind.{common_steps}
use Rattle.text.specs.Parts.{parts_at}
use Rattle.script_text.specs.FactLine.{record_line, fact_of}
use Rattle.script_text.proofs.FactLines.{none_if_bad}
use Rattle.script_text.proofs.Words.{record_parts, record_is_first}
use Rattle.script_text.proofs.fact_line.fact.Goals as goal

pub returns-in-Some-clause-fact : goal.returns-in-Some-clause-fact
returns-in-Some-clause-fact c =
    let is : fact_of c.args.line.now ≡ record_line (parts_at 32 c.in-Some.fields.now) = grind (arith, common_steps, record_is_first) in
    rw is c.record_line.ensures.fact

pub returns-in-Some-clause-reason : goal.returns-in-Some-clause-reason
returns-in-Some-clause-reason c =
    let is : parts_at 32 c.args.line.now ≡ codes "rec" ∷ parts_at 32 c.in-Some.fields.now = grind (arith, common_steps, record_parts) in
    rw is c.record_line.ensures.reason

pub returns-in-Some-clause-none : goal.returns-in-Some-clause-none
returns-in-Some-clause-none c = none_if_bad c.args.line.now c.record_line.result (returns-in-Some-clause-reason c)

pub returns-in-Some-first_part-clause-none : goal.returns-in-Some-first_part-clause-none
returns-in-Some-first_part-clause-none c = none_if_bad c.args.line.now c.fact_line.result (search (rules, record_parts))

pub returns-in-None-clause-none : goal.returns-in-None-clause-none
returns-in-None-clause-none c = none_if_bad c.args.line.now c.fact_line-in-None.result (search (rules, record_parts))
