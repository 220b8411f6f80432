use Rattle.segment_theorems.proofs.Shed.{commit_keeps}
use Rattle.segment_theorems.proofs.commit_keeps.Goals as goal

pub returns : goal.returns
returns c = commit_keeps
