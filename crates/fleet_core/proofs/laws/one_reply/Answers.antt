use Rattle.fleet_core.proofs.Determined.{one_reply}
use Rattle.fleet_core.proofs.laws.one_reply.Goals as goal

pub returns : goal.returns
returns c = one_reply
