use Rattle.std.proofs.Common.{rules}
use Rattle.std.proofs.lemmas.Result.{IfOk-weaker}
use Rattle.segment_join.proofs.Comparing.{by_meanings, by_parts}
use Rattle.segment_join.proofs.covering.covers.Goals as goal

pub returns-clause-meanings : goal.returns-clause-meanings
returns-clause-meanings c = search (rules, IfOk-weaker, by_meanings)

pub returns-clause-parts : goal.returns-clause-parts
returns-clause-parts c = search (rules, IfOk-weaker, by_parts, by_meanings)
