use Rattle.std.proofs.Common.{refl, arith, rules}
use Rattle.std.proofs.lemmas.List.{get_or_default}
use Rattle.log_law.proofs.Reaching.{rise_step, risen_none}
use Rattle.log_law.proofs.lows.rise.Goals as goal

pub loop-epoch-init : goal.loop-epoch-init
loop-epoch-init c = record { len = refl; some = omega arith; risen = risen_none c.args.tops.now.items }

pub loop-epoch-preserved : goal.loop-epoch-preserved
loop-epoch-preserved c = search (rules, get_or_default, rise_step)

pub returns-clause-each : goal.returns-clause-each
returns-clause-each c = λ e n l. c.loop-epoch.invariant.risen.done e n (omega (arith, l))
