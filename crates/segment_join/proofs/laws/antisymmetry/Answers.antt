use Rattle.segment_join.proofs.BothWays.{antisymmetry}
use Rattle.segment_join.proofs.laws.antisymmetry.Goals as goal

pub returns : goal.returns
returns c = antisymmetry
