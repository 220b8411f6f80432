use Rattle.std.proofs.lemmas.Grind.{common_steps}
use Rattle.std.proofs.Common.{arith}
use Rattle.fleet_drill.specs.Parts.{HasAll}
use Rattle.fleet_drill.proofs.Lists.{all_more, one_longer}
use Rattle.fleet_drill.proofs.joining.join_all.Goals as goal

pub loop-own-preserved : goal.loop-own-preserved
loop-own-preserved g c =
    let i = c.loop-own.invariant in
    let items = c.in_ok-push.ensures.items in
    let more = one_longer c.loop-own.joined.items c.push.new.self.items c.in_ok-joined_with.field-0 items in
    record {
      len = omega (arith, more, i.len);
      has = all_more c.loop-own.joined.items c.push.new.self.items c.in_ok-joined_with.field-0 (λ j. HasAll g.L.LogName.roster g.L.LogName.log j c.args.closed.now) i.has items c.in_ok-joined_with.ensures;
    }

pub returns-in_err-push-clause-len : goal.returns-in_err-push-clause-len
returns-in_err-push-clause-len g c = grind (arith, common_steps)

pub returns-clause-len : goal.returns-clause-len
returns-clause-len g c = grind (arith, common_steps)

pub returns-in_err-push-clause-has : goal.returns-in_err-push-clause-has
returns-in_err-push-clause-has g c = grind (arith, common_steps)

pub loop-own-init : goal.loop-own-init
loop-own-init g c = grind (arith, common_steps)
