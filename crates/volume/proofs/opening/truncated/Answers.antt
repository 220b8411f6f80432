use Rattle.std.proofs.Common.{subst}
use Rattle.segment_theorems.specs.State.{State}
use Rattle.volume.specs.Opening.{TakesPlan}
use Rattle.volume.proofs.opening.truncated.Goals as goal

pub returns-in-Ok-clause-takes : goal.returns-in-Ok-clause-takes
returns-in-Ok-clause-takes c =
    subst (λ (s : State). TakesPlan s c.args.cut c.take.new.self) c.in_ok-union.ensures
    (record { means = c.in-Ok.ensures.means; taken = c.in-Ok.field-0; changed = c.in-Ok.ensures.stores; same = c.in-Ok.ensures.idle })
