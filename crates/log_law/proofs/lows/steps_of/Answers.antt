use Rattle.std.proofs.Common.{◌+◌, ◌<◌, ◌∙◌, take, sym, subst}
use Rattle.std.proofs.lemmas.List.{take_all}
use Rattle.log_law.specs.Lows.{AreSteps}
use Rattle.log_law.proofs.Reaching.{steps_more, steps_other, no_steps}
use Rattle.log_law.proofs.lows.steps_of.Goals as goal
use Rattle.log_law.proofs.lows.steps_of.Goals.{in-Advance, in_default}

pub loop-fact-init : goal.loop-fact-init
loop-fact-init c = no_steps c.args.reader c.args.len c.in_ok-tops.tops.items c.in_ok-tops.ensures.0 c.in_ok-tops.ensures.1

pub loop-fact-preserved : goal.loop-fact-preserved
loop-fact-preserved c =
    elim c.match-fact.branch [
      | in-Advance w ↦
          subst (λ v. AreSteps (take (c.loop-fact.fact-index + 1) c.args.facts.now) c.args.reader c.args.len v.items) (sym w.tops-is)
          (steps_more c.args.facts.now c.args.reader c.args.len c.loop-fact.fact-index c.fact-item.result w.in-Advance.advance c.loop-fact.tops.items
          w.note.new.tops.items c.loop-fact-test.true c.fact-item.is w.in-Advance.is c.loop-fact.invariant (w.note.ensures.len ∙ c.loop-fact.invariant.len)
          (λ e n l. w.note.ensures.each e n (subst (λ k. e < k) (sym c.loop-fact.invariant.len) l)))
      | in_default w ↦
          subst (λ v. AreSteps (take (c.loop-fact.fact-index + 1) c.args.facts.now) c.args.reader c.args.len v.items) (sym w.tops-is)
          (steps_other c.args.facts.now c.args.reader c.args.len c.loop-fact.fact-index c.fact-item.result c.loop-fact.tops.items c.loop-fact-test.true
          c.fact-item.is w.in_default.not-Advance c.loop-fact.invariant)
    ]

pub returns : goal.returns
returns c =
    subst (λ fs. AreSteps fs c.args.reader c.args.len c.loop-fact.tops.items) (take_all c.loop-fact.fact-index c.args.facts.now c.loop-fact-test.false)
    c.loop-fact.invariant
