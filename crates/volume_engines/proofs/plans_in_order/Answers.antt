use Rattle.volume_engines.proofs.OrderedSteps.{plans_in_order}
use Rattle.volume_engines.proofs.plans_in_order.Goals as goal

pub returns : goal.returns
returns c = plans_in_order
