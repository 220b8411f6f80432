use Rattle.std.proofs.Common.{◌-◌, arith}
use Rattle.log_law.proofs.Breaches.{told, reported_told}
use Rattle.log_law.proofs.breach.breach_of.Goals as goal

pub returns-in_default-clause-tells : goal.returns-in_default-clause-tells
returns-in_default-clause-tells c =
    told c.args.roster c.args.facts.now (c.args.fault.place - 1) c.args.fault c.breach_at.result (omega arith) c.breach_at.ensures.none c.breach_at.ensures.some

pub returns-in_default-clause-found : goal.returns-in_default-clause-found
returns-in_default-clause-found c h =
    reported_told c.args.roster c.args.facts.now (c.args.fault.place - 1) c.args.fault c.breach_at.result (omega arith) c.breach_at.ensures.some h
