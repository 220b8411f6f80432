use Rattle.std.proofs.Common.{sym, arith, rules}
use Rattle.std.proofs.lemmas.Grind.{common_steps}
use Rattle.std.proofs.lemmas.List.{length-map}
use Rattle.text.proofs.Forms.{numbers_apart, numbers_within}
use Rattle.text.proofs.Loops.{numbers_read}
use Rattle.node_stream.proofs.wide.wide_numbers.Goals as goal

pub returns-then-fields-clause-value : goal.returns-then-fields-clause-value
returns-then-fields-clause-value g c = sym (numbers_apart c.args.limits _ (λ e. c.if-fields.true (omega (arith, e, length-map c.args.fields.now (λ x. x.now)))))

pub loop-i-preserved : goal.loop-i-preserved
loop-i-preserved g c = grind (arith, common_steps)

pub returns-clause-bound : goal.returns-clause-bound
returns-clause-bound g c = search (rules, numbers_read, numbers_within)

pub returns-in_err-numbers-clause-value : goal.returns-in_err-numbers-clause-value
returns-in_err-numbers-clause-value g c = grind (arith, common_steps)
