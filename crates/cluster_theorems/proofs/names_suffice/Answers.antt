use Rattle.cluster_theorems.proofs.Named.{names_suffice}
use Rattle.cluster_theorems.proofs.names_suffice.Goals as goal

pub returns : goal.returns
returns c = names_suffice
