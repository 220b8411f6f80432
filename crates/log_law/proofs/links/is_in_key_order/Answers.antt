use Rattle.std.proofs.Common.{arith, refl}
use Rattle.log_law.proofs.InOrder.{one_in_order, more_in_order}
use Rattle.log_law.proofs.links.is_in_key_order.Goals as goal

pub loop-place-init : goal.loop-place-init
loop-place-init c = one_in_order c.args.items.now

pub loop-place-preserved : goal.loop-place-preserved
loop-place-preserved c = more_in_order c.args.items.now c.loop-place.place c.loop-place.auto.place c.loop-place-test.true
    (c.if-not-is_key_at_most.ensures.0 refl) c.loop-place.invariant

pub returns : goal.returns
returns c = (λ t i j d l m. c.loop-place.invariant i j d l (omega arith) m, λ order. refl)
