use Rattle.std.proofs.lemmas.Grind.{common_steps}
use Rattle.std.proofs.Common.{rules, arith, ◌≡◌, ◌+◌, ℕ, sym, ap, ◌∙◌, subst, length}
use Rattle.node_lock.specs.Known.{out_of, list_in}
use Rattle.node_lock.specs.Passes.{AreIdle, AreNew}
use Rattle.node_lock.proofs.Passes.{dealt, left, own_part, idle_snoc, new_snoc}
use Rattle.node_lock.proofs.lock.Lock.open.Goals as goal

pub invariant_of-push_reserved : goal.invariant_of-push_reserved
invariant_of-push_reserved g c =
    own_part _ _ _ _ (dealt c.loop-number.seat.me _ c.args.passes c.loop-number.number (search rules) c.loop-number.invariant.1 c.deal-own.ensures.new.1)

pub loop-number-preserved : goal.loop-number-preserved
loop-number-preserved g c = let i = c.loop-number.invariant in let items = c.push_reserved.ensures.items in
    let me = dealt c.loop-number.seat.me _ c.args.passes c.loop-number.number (search rules) i.1 c.deal-own.ensures.new.1 in (
      search rules,
      left c.loop-number.seat.me _ c.args.passes c.loop-number.number (search rules) i.1 c.deal-own.ensures.seat.1,
      search rules,
      subst (AreIdle _) (sym items) (idle_snoc _ _ _ i.3 (c.deal-own.ensures.new.0 ∙ i.0, ap (λ m. out_of m.0.holds m.0.noted) me)),
      subst (AreNew 0) (sym items) (new_snoc 0 _ _ i.4 (sym i.2 ∙ (let n : ℕ = length c.loop-number.dealt.items in let e : n ≡ 0 + n = omega arith in e))
          (ap (λ m. list_in m.0.parts) me)),
      search rules,
    )

pub loop-number-init : goal.loop-number-init
loop-number-init g c = grind (arith, common_steps)

pub returns-clause-passes : goal.returns-clause-passes
returns-clause-passes g c = grind (arith, common_steps)

pub returns-clause-lock : goal.returns-clause-lock
returns-clause-lock g c = grind (arith, common_steps)

pub returns-clause-count : goal.returns-clause-count
returns-clause-count g c = grind (arith, common_steps)

pub push_reserved-requires : goal.push_reserved-requires
push_reserved-requires g c = grind (arith, common_steps)

pub deal-own-requires-clause-idle : goal.deal-own-requires-clause-idle
deal-own-requires-clause-idle g c = grind (arith, common_steps)
