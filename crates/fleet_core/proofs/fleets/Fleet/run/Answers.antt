use Rattle.std.proofs.Common.{◌≡◌, ◌+◌, List, [], ◌∷◌, ◌++◌, take, take_all, sym, ap, ◌∙◌, subst, arith, rules, add-one}
use Rattle.std.proofs.Math.Seq.{take-suc}
use Rattle.std.proofs.lemmas.Grind.{common_steps}
use Rattle.redo_core.specs.declared.facts.Fact.{Fact}
use Rattle.script_steps.specs.declared.steps.Step.{Step}
use Rattle.fleet_core.specs.declared.replies.Reply.{Reply}
use Rattle.fleet_core.specs.Calls.{RunCalls}
use Rattle.fleet_core.specs.Runs.{FollowsMachine}
use Rattle.fleet_core.proofs.GoingOn.{follows_more, calls_more}
use Rattle.fleet_core.proofs.fleets.Fleet.run.Goals as goal

pub loop-step-preserved : goal.loop-step-preserved
loop-step-preserved c =
    let i = c.loop-step.step-index in
    let steps = c.args.steps.now in
    let pushed : c.push.new.self.items ≡ c.loop-step.replies.items ++ c.step-reply.result ∷ [] = grind (arith, common_steps) in
    let taken : take (i + 1) steps ≡ take i steps ++ c.step-item.result ∷ [] =
    rw add-one (take-suc steps i c.step-item.result c.loop-step-test.true ∙ ap (λ s. take i steps ++ s ∷ []) (sym c.step-item.is)) in
    record {
      follows =
          subst (λ (xs : List (Step Fact)). FollowsMachine c.args.self.now xs c.push.new.self.items c.step-reply.new.self) (sym taken)
          (subst (λ (rs : List Reply). FollowsMachine c.args.self.now (take i steps ++ c.step-item.result ∷ []) rs c.step-reply.new.self) (sym pushed)
          (follows_more c.args.self.now c.loop-step.self c.step-reply.new.self
          (take i steps) c.loop-step.replies.items c.step-item.result c.step-reply.result c.loop-step.invariant.follows c.step-reply.ensures.follows));
      calls =
          subst (λ (xs : List (Step Fact)). RunCalls c.args.self.now xs c.push.new.self.items c.step-reply.new.self) (sym taken)
          (subst (λ (rs : List Reply). RunCalls c.args.self.now (take i steps ++ c.step-item.result ∷ []) rs c.step-reply.new.self) (sym pushed)
          (calls_more c.args.self.now c.loop-step.self c.step-reply.new.self
          (take i steps) c.loop-step.replies.items c.step-item.result c.step-reply.result c.loop-step.invariant.calls c.step-reply.ensures.calls));
      count = search rules;
      room = omega (arith, c.push.ensures.capacity, c.loop-step.invariant.room);
    }

pub returns-clause-follows : goal.returns-clause-follows
returns-clause-follows c =
    subst (λ (xs : List (Step Fact)). FollowsMachine c.args.self.now xs c.loop-step.replies.items c.loop-step.self)
    (take_all c.loop-step.step-index c.args.steps.now c.loop-step-test.false) c.loop-step.invariant.follows

pub returns-clause-calls : goal.returns-clause-calls
returns-clause-calls c =
    subst (λ (xs : List (Step Fact)). RunCalls c.args.self.now xs c.loop-step.replies.items c.loop-step.self)
    (take_all c.loop-step.step-index c.args.steps.now c.loop-step-test.false) c.loop-step.invariant.calls

pub returns-clause-count : goal.returns-clause-count
returns-clause-count c = search rules
