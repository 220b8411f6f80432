use Rattle.std.proofs.Common.{rules}
use Rattle.std.proofs.lemmas.Result.{IfOk-weaker}
use Rattle.segment_join.proofs.Comparing.{by_meanings}
use Rattle.segment_join.proofs.covering.covers_back.Goals as goal

pub returns : goal.returns
returns c = search (rules, IfOk-weaker, by_meanings)
