use Rattle.fleet_core.proofs.Headline.{covers_by_parts}
use Rattle.fleet_core.proofs.laws.covers_by_parts.Goals as goal

pub returns : goal.returns
returns c = covers_by_parts c.order_by_parts.ensures
