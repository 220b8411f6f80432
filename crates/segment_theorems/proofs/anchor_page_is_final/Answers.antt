use Rattle.segment_theorems.proofs.Shed.{anchor_page_is_final}
use Rattle.segment_theorems.proofs.anchor_page_is_final.Goals as goal

pub returns : goal.returns
returns c = λ roster log facts. anchor_page_is_final log facts
