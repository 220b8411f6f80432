use Rattle.std.proofs.Common.{◌+◌, take, take_all, ◌∙◌, sym, subst, ap, max}
use Rattle.redo_core.specs.CompleteEpoch.{HasCut}
use Rattle.redo_core.specs.Order.{IsGreatest}
use Rattle.redo_core.specs.Sets.{cuts}
use Rattle.log_law.proofs.LastEpoch.{no_epoch, epoch_more, epoch_other}
use Rattle.log_law.proofs.counted.last_epoch.Goals as goal
use Rattle.log_law.proofs.counted.last_epoch.Goals.{in-Cut, in_default}

pub loop-fact-init : goal.loop-fact-init
loop-fact-init c = no_epoch

pub loop-fact-preserved : goal.loop-fact-preserved
loop-fact-preserved c =
    let xs = c.args.facts.now in let i = c.loop-fact.fact-index in let f = c.fact-item.result in
    elim c.match-fact.branch [
      | in-Cut w ↦ epoch_more xs i f w.in-Cut.cut c.loop-fact.last c.match-fact.last c.loop-fact-test.true c.fact-item.is w.in-Cut.is c.loop-fact.invariant
          (w.last-is ∙ w.max-last.ensures ∙ ap (λ n. max n c.loop-fact.last) w.epoch.ensures.value)
      | in_default w ↦ subst (IsGreatest (HasCut (cuts (take (i + 1) xs)))) (sym w.last-is)
          (epoch_other xs i f c.loop-fact.last c.loop-fact-test.true c.fact-item.is w.in_default.not-Cut c.loop-fact.invariant)
    ]

pub returns : goal.returns
returns c = subst (λ facts. IsGreatest (HasCut (cuts facts)) c.loop-fact.last)
    (take_all c.loop-fact.fact-index c.args.facts.now c.loop-fact-test.false) c.loop-fact.invariant
