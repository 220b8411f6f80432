use Rattle.fleet_core.proofs.Staying.{messages_stay}
use Rattle.fleet_core.proofs.laws.messages_stay.Goals as goal

pub returns : goal.returns
returns c = messages_stay
