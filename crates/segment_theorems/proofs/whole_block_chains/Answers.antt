use Rattle.segment_theorems.proofs.Chains.{whole_block_chains}
use Rattle.segment_theorems.proofs.whole_block_chains.Goals as goal

pub returns : goal.returns
returns c = λ roster log facts. whole_block_chains log facts
