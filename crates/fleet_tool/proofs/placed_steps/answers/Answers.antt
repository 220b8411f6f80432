use Rattle.std.proofs.Common.{◌≡◌, List, [], ℕ, drop, string_bytes, append-nil, subst, sym, arith}
use Rattle.std.proofs.lemmas.List.{drop_all}
use Rattle.script_steps.specs.declared.steps.Step.{Step}
use Rattle.fleet_tool.specs.ScriptSteps.{AnswersSteps}
use Rattle.fleet_tool.proofs.Steps.{none_left, answered_more}
use Rattle.fleet_tool.proofs.placed_steps.answers.Goals as goal

pub loop-step-preserved : goal.loop-step-preserved
loop-step-preserved c =
    let put = c.in_ok-put_answer.ensures in
    answered_more c.args.fleet.now c.loop-step.fleet c.put_answer.new.fleet c.args.facts.now c.args.steps.now c.loop-step.step-index _
    (string_bytes c.loop-step.text) (string_bytes c.put_answer.new.text) put.0
    c.loop-step-test.true put.1 put.2 c.loop-step.invariant

pub returns : goal.returns
returns c =
    let none : drop c.loop-step.step-index c.args.steps.now ≡ [] = drop_all c.loop-step.step-index c.args.steps.now (omega arith) in
    let last = subst (λ (ss : List (Step ℕ)). AnswersSteps c.loop-step.fleet c.args.facts.now ss []) (sym none) (none_left c.loop-step.fleet c.args.facts.now) in
    subst (AnswersSteps c.args.fleet.now c.args.facts.now c.args.steps.now) (append-nil (string_bytes c.loop-step.text)) (c.loop-step.invariant [] last)
