use Rattle.segment_theorems.proofs.Anew.{init_begins_anew}
use Rattle.segment_theorems.proofs.init_begins_anew.Goals as goal

pub returns : goal.returns
returns c = init_begins_anew
