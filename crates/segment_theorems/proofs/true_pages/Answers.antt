use Rattle.log_theorems.proofs.Log.{log_of_sound}
use Rattle.segment_theorems.proofs.Reading.{pages_law}
use Rattle.segment_theorems.proofs.true_pages.Goals as goal

pub returns : goal.returns
returns c = λ roster log facts p s page q image sound. pages_law log facts p s page q image (log_of_sound roster log sound)
