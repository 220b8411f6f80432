use Rattle.redo_wire.proofs.Epochs.{is_complete}
use Rattle.redo_wire.proofs.laws.judged_epoch.Goals as goal

pub returns : goal.returns
returns c = is_complete
