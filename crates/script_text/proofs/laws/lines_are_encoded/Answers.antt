use Rattle.script_text.proofs.FactEncoding.{fact_lines_are_encoded}
use Rattle.script_text.proofs.StepEncoding.{step_lines_are_encoded}
use Rattle.script_text.proofs.laws.lines_are_encoded.Goals as goal

pub returns : goal.returns
returns c = record { fact = fact_lines_are_encoded; step = step_lines_are_encoded }
