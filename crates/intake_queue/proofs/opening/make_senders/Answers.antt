use Rattle.std.proofs.Common.{arith}
use Rattle.std.proofs.lemmas.Grind.{common_steps}
use Rattle.intake_queue.proofs.Beginning.{opens}
use Rattle.intake_queue.proofs.Parcels.{one_more}
use Rattle.intake_queue.proofs.opening.make_senders.Goals as goal

pub another-own-requires-clause-rule : goal.another-own-requires-clause-rule
another-own-requires-clause-rule g c = grind (arith, common_steps, opens)

pub returns-clause-known : goal.returns-clause-known
returns-clause-known g c = grind (arith, common_steps)

pub invariant_of-push : goal.invariant_of-push
invariant_of-push g c = grind (arith, common_steps)

pub returns-clause-own : goal.returns-clause-own
returns-clause-own g c = grind (arith, common_steps)

pub returns-clause-made : goal.returns-clause-made
returns-clause-made g c = grind (arith, common_steps)

pub loop-before-init : goal.loop-before-init
loop-before-init g c = grind (arith, common_steps)

pub returns-in_err-push-clause-own : goal.returns-in_err-push-clause-own
returns-in_err-push-clause-own g c = grind (arith, common_steps)

pub loop-before-preserved : goal.loop-before-preserved
loop-before-preserved g c = record {
  own = grind (arith, common_steps);
  known = grind (arith, common_steps);
  senders = one_more c.args.line.now.table.shared.table_id c.args.senders c.loop-before.before c.loop-before.made.items c.push.new.self.items _
      c.loop-before.invariant.senders (grind (arith, common_steps)) c.in_ok-push.ensures.items;
}
