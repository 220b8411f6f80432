use Rattle.std.proofs.Common.{sym, ◌∙◌, rules}
use Rattle.text.proofs.FirstPart.{parted_at, not_parted}
use Rattle.text.proofs.fields.first_part.Goals as goal

pub returns-in-None-clause-none : goal.returns-in-None-clause-none
returns-in-None-clause-none c = not_parted c.args.separator c.args.text.now (sym c.first_at.ensures ∙ c.in-None.is)

pub returns-in-Some-clause-some : goal.returns-in-Some-clause-some
returns-in-Some-clause-some c = search (rules, parted_at)
