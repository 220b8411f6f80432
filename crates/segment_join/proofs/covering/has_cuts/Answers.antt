use Rattle.std.proofs.Common.{rules}
use Rattle.segment_core.proofs.Scanning.{one_fails, all_pass, next_passes}
use Rattle.segment_join.proofs.covering.has_cuts.Goals as goal

pub loop-cut-preserved : goal.loop-cut-preserved
loop-cut-preserved c = search (rules, next_passes)

pub returns-then-not-knows_cut : goal.returns-then-not-knows_cut
returns-then-not-knows_cut c = search (rules, one_fails)

pub returns : goal.returns
returns c = search (rules, all_pass)
