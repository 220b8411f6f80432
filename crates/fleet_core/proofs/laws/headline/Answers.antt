use Rattle.fleet_core.proofs.Headline.{headline}
use Rattle.fleet_core.proofs.laws.headline.Goals as goal

pub returns : goal.returns
returns c = headline c.states_answer.ensures c.least_upper_bound.ensures
