use Rattle.segment_join.proofs.Merging.{write_four_read_three}
use Rattle.segment_join.proofs.laws.write_four_read_three.Goals as goal

pub returns : goal.returns
returns c = write_four_read_three c.overlap.ensures
