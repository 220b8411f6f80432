use Rattle.log_law.proofs.Breaches.{missing_after}
use Rattle.log_law.proofs.counted.CountedCuts.first_missing.Goals as goal

pub returns-then-epoch-self : goal.returns-then-epoch-self
returns-then-epoch-self c log d = missing_after log c.args.self.now.complete c.args.epoch d.complete c.if-epoch-self.true

pub returns : goal.returns
returns c log d = (d.complete c.args.epoch).1 c.if-epoch-self.false
