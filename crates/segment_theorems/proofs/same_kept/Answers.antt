use Rattle.segment_theorems.proofs.Same.{kept_as}
use Rattle.segment_theorems.proofs.same_kept.Goals as goal

pub returns : goal.returns
returns c = λ roster log facts p s r sound m. kept_as log facts p s m r
