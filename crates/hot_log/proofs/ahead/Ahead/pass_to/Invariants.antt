use Rattle.std.proofs.Common.{length}
use Rattle.std.specs.List.{cons_option}
use Rattle.hot_log.proofs.Sides.{Passes, shown}
use Rattle.hot_log.proofs.ahead.Ahead.pass_to.Given as goal

abbrev pub invariant-loop-self : goal.invariant-loop-self
invariant-loop-self l = Passes l.fn.self l.key (shown l.self-inside.next) l.self-inside.rest

abbrev pub decreases-loop-self : goal.decreases-loop-self
decreases-loop-self l = length (cons_option (shown l.self-inside.next) l.self-inside.rest)
