use Rattle.volume_theorems.proofs.Contents.{parts_grow}
use Rattle.volume_theorems.proofs.parts_grow.Goals as goal

pub returns : goal.returns
returns c = parts_grow
