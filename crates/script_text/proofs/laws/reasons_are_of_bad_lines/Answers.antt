use Rattle.script_text.proofs.LineWords.{fact_reasons_are_of_bad_lines, nodes_reasons_are_of_bad_lines, step_reasons_are_of_bad_lines}
use Rattle.script_text.proofs.laws.reasons_are_of_bad_lines.Goals as goal

pub returns : goal.returns
returns c = record { fact = fact_reasons_are_of_bad_lines; nodes = nodes_reasons_are_of_bad_lines; step = step_reasons_are_of_bad_lines }
