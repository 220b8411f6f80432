use Rattle.volume_logs.proofs.Readers.{held_lo_is_kept}
use Rattle.volume_logs.proofs.held_lo_is_kept.Goals as goal

pub returns : goal.returns
returns c = held_lo_is_kept
