use Rattle.std.proofs.Common.{subst}
use Rattle.snapshot.specs.Stagings.{IsStaging}
use Rattle.snapshot.proofs.staging.Staging.get.Goals as goal

pub returns-clause-form : goal.returns-clause-form
returns-clause-form c = subst IsStaging c.self.view_is c.self.invariant
