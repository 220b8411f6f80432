use Rattle.std.proofs.Common.{rules}
use Rattle.hot_log.proofs.Hanging.{gap_one}
use Rattle.hot_log.proofs.fixed.gap_has_one_answer.Goals as goal

pub returns : goal.returns
returns c = search (rules, gap_one)
