use Rattle.script_text.proofs.BadLines.{bad_script_line_is_least, bad_fact_line_is_least}
use Rattle.script_text.proofs.laws.bad_lines_are_least.Goals as goal

pub returns : goal.returns
returns c = record { script = bad_script_line_is_least; log = bad_fact_line_is_least }
