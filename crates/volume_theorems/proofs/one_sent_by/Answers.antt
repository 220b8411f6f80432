use Rattle.volume_theorems.proofs.ByMoment.{one_sent_by}
use Rattle.volume_theorems.proofs.one_sent_by.Goals as goal

pub returns : goal.returns
returns c = one_sent_by
