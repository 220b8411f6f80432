use Rattle.std.proofs.Common.{arith}
use Rattle.std.proofs.lemmas.Grind.{common_steps}
use Rattle.redo_wire.proofs.values.value_by_tag.Goals as goal

pub returns-in_ok-decode_summary-in-16 : goal.returns-in_ok-decode_summary-in-16
returns-in_ok-decode_summary-in-16 c = grind (arith, common_steps)

pub returns-in_ok-decode_delta-in-17 : goal.returns-in_ok-decode_delta-in-17
returns-in_ok-decode_delta-in-17 c = grind (arith, common_steps)

pub returns-in_ok-decode_piece-in-18 : goal.returns-in_ok-decode_piece-in-18
returns-in_ok-decode_piece-in-18 c = grind (arith, common_steps)

pub returns-in_ok-decode_fact-in_default : goal.returns-in_ok-decode_fact-in_default
returns-in_ok-decode_fact-in_default c = grind (arith, common_steps)

pub returns-in_err-decode_fact-in_default : goal.returns-in_err-decode_fact-in_default
returns-in_err-decode_fact-in_default c = grind (arith, common_steps)
