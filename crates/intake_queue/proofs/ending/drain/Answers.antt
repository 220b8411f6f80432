use Rattle.std.proofs.lemmas.Grind.{common_steps}
use Rattle.std.proofs.Common.{rules, ◌≡◌, ◌++◌, sym, ap, ◌∙◌, arith}
use Rattle.intake_queue.proofs.Closing.{at_end, as_taker}
use Rattle.intake_queue.proofs.Moving.{takes, holds_rest}
use Rattle.crossbeam_queue.specs.Passes.{view}
use Rattle.intake_queue.specs.Known.{taker}
use Rattle.intake_queue.proofs.ending.drain.Goals as goal

pub pop_as-requires-clause-rule : goal.pop_as-requires-clause-rule
pop_as-requires-clause-rule g c = let is = as_taker _ _ _ _ _ _ c.loop.invariant.known in (takes _ _ is, holds_rest _ _ is)

pub returns-in-None-pop_as : goal.returns-in-None-pop_as
returns-in-None-pop_as g c =
    let v = view c.args.pass.now in
    let held = c.in-None-pop_as.ensures.rule.1 in
    let left = c.reserve.new.self.items in
    let kept : left ≡ c.loop.left.items = search rules in
    let is = c.loop.invariant.known ∙ ap (λ xs. taker (v.taken ++ xs) v.senders v.made v.ended v.accepted_counts) (sym kept) in
    let known = at_end v (view c.loop.pass) left held.0 is held.1 held.2 in
    record { whole = known.0; in_turn = known.1 }

pub push_reserved-requires : goal.push_reserved-requires
push_reserved-requires g c = grind (arith, common_steps)

pub loop-preserved : goal.loop-preserved
loop-preserved g c = grind (arith, common_steps)

pub loop-init : goal.loop-init
loop-init g c = grind (arith, common_steps)

pub unreachable-requires : goal.unreachable-requires
unreachable-requires g c = grind (arith, common_steps)

pub loop-preserved-then-is_err : goal.loop-preserved-then-is_err
loop-preserved-then-is_err g c = grind (arith, common_steps)

pub pop_as-requires-clause-queue : goal.pop_as-requires-clause-queue
pop_as-requires-clause-queue g c = grind (arith, common_steps)

pub unreachable-unreachable : goal.unreachable-unreachable
unreachable-unreachable g c = grind (arith, common_steps)
