use Rattle.log_theorems.proofs.Log.{log_of_sound}
use Rattle.segment_theorems.proofs.Reading.{links_law}
use Rattle.segment_theorems.proofs.same_links.Goals as goal

pub returns : goal.returns
returns c = λ roster log facts p s n sound. links_law log facts p s n (log_of_sound roster log sound)
