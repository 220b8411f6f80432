use Rattle.segment_theorems.proofs.Shed.{final_pages}
use Rattle.segment_theorems.proofs.final_pages.Goals as goal

pub returns : goal.returns
returns c = λ roster log facts. final_pages log facts
