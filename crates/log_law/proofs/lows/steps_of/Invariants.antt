use Rattle.std.proofs.Common.{take}
use Rattle.log_law.specs.Lows.{AreSteps}
use Rattle.log_law.proofs.lows.steps_of.Given as goal

-- the facts so far are noted
abbrev pub invariant-loop-fact : goal.invariant-loop-fact
invariant-loop-fact l = AreSteps (take l.fact-index l.facts) l.reader l.len l.tops.items
