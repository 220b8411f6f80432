use Rattle.std.proofs.Common.{arith, subst}
use Rattle.log_law.specs.Links.{IsLeastBroken}
use Rattle.log_law.proofs.Least.{least_later, least_first, least_new}
use Rattle.log_law.proofs.links.earlier.Goals as goal

pub returns-in-Some : goal.returns-in-Some
returns-in-Some c log past t e h j = least_later log past t c.in-Some.known (subst (IsLeastBroken log past) c.in-Some.is h) (omega arith)

pub returns-in_default : goal.returns-in_default
returns-in_default c log past t e h j = least_new log past t c.in-Some.known (record { place = c.args.place; law = c.args.law })
    (subst (IsLeastBroken log past) c.in-Some.is h) (omega arith) e j

pub returns-in_default-2 : goal.returns-in_default-2
returns-in_default-2 c log past t e h j = least_first log past t (record { place = c.args.place; law = c.args.law })
    (subst (IsLeastBroken log past) c.in_default.is h) e j
