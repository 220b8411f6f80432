use Rattle.std.proofs.Common.{rules}
use Rattle.segment_core.proofs.Scanning.{all_pass, next_passes}
use Rattle.segment_join.proofs.covering.has_waits.Goals as goal

pub loop-wait-preserved : goal.loop-wait-preserved
loop-wait-preserved c = search (rules, next_passes)

pub returns-then-not-knows_advance : goal.returns-then-not-knows_advance
returns-then-not-knows_advance c = search rules

pub returns : goal.returns
returns c = search (rules, all_pass)
