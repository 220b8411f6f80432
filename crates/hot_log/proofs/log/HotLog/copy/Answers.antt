use Rattle.std.proofs.Common.{◌∙◌}
use Rattle.hot_log.proofs.log.HotLog.copy.Goals as goal

pub invariant_of-result : goal.invariant_of-result
invariant_of-result c = rw (c.in_ok-copy.ensures, c.in_ok-copy-2.ensures, c.in_ok-copy-3.ensures) c.self.invariant

pub returns : goal.returns
returns c = c.in_ok-copy.ensures ∙ c.self.view_is
