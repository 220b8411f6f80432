use Rattle.segment_theorems.proofs.Learnt.{takes_record}
use Rattle.segment_theorems.proofs.takes_record.Goals as goal

pub returns : goal.returns
returns c = takes_record
