-- Runs that go on by a step.
use Rattle.std.proofs.Common.{◌≡◌, ℕ, List, [], ◌∷◌, ◌++◌, refl, subst, rules}
use Rattle.redo_core.specs.declared.facts.Fact.{Fact}
use Rattle.script_steps.specs.declared.steps.Step.{Step}
use Rattle.fleet_core.specs.declared.replies.Reply.{Reply}
use Rattle.fleet_core.specs.Machine.{Machine, after}
use Rattle.fleet_core.specs.Replies.{IsReply}
use Rattle.fleet_core.specs.FleetState.{FleetState}
use Rattle.fleet_core.specs.Calls.{StepCalls, RunCalls}
use Rattle.fleet_core.specs.Runs.{FollowsStep, FollowsMachine, AreReplies, after_all}
use Rattle.fleet_core.specs.Laws.{RunsGoOn, CallsGoOn}
use Rattle.fleet_core.proofs.Places.{all_but_last}

replies_more : (roster : ℕ) (m : Machine) (steps : List (Step Fact)) (replies : List Reply) (step : Step Fact) (reply : Reply)
    → AreReplies roster m steps replies → IsReply roster (after_all m steps replies) step reply → AreReplies roster m (steps ++ step ∷ [])
    (replies ++ reply ∷ [])
replies_more roster m [] [] step reply are is = (is, tt)
replies_more roster m [] (r ∷ rs) step reply are is = absurd are
replies_more roster m (s ∷ ss) [] step reply are is = absurd are
replies_more roster m (s ∷ ss) (r ∷ rs) step reply are is = (are.0, replies_more roster (after m s r) ss rs step reply are.1 is)

after_more : (roster : ℕ) (m : Machine) (steps : List (Step Fact)) (replies : List Reply) (step : Step Fact) (reply : Reply)
    → AreReplies roster m steps replies → after_all m (steps ++ step ∷ []) (replies ++ reply ∷ []) ≡ after (after_all m steps replies) step reply
after_more roster m [] [] step reply are = refl
after_more roster m [] (r ∷ rs) step reply are = absurd are
after_more roster m (s ∷ ss) [] step reply are = absurd are
after_more roster m (s ∷ ss) (r ∷ rs) step reply are = after_more roster (after m s r) ss rs step reply are.1

pub follows_more : (start old new : FleetState) (steps : List (Step Fact)) (replies : List Reply) (step : Step Fact) (reply : Reply)
    → FollowsMachine start steps replies old → FollowsStep old step reply new → FollowsMachine start (steps ++ step ∷ []) (replies ++ reply ∷ []) new
follows_more start old new steps replies step reply run one = search (rules, all_but_last, replies_more, after_more)

pub calls_more : (start old new : FleetState) (steps : List (Step Fact)) (replies : List Reply) (step : Step Fact) (reply : Reply)
    → RunCalls start steps replies old → StepCalls old step reply new → RunCalls start (steps ++ step ∷ []) (replies ++ reply ∷ []) new
calls_more start old new [] [] step reply run one = (new, subst (λ s. StepCalls s step reply new) run one, refl)
calls_more start old new [] (r ∷ rs) step reply run one = absurd run
calls_more start old new (s ∷ ss) [] step reply run one = absurd run
calls_more start old new (s ∷ ss) (r ∷ rs) step reply run one = (run.0, run.1, calls_more run.0 old new ss rs step reply run.2 one)

pub runs_go_on : RunsGoOn
runs_go_on = record { begins = λ fleet roster log m sound takes mean. (tt, mean); goes_on = follows_more }

pub calls_go_on : CallsGoOn
calls_go_on = record { begins = λ fleet. refl; goes_on = calls_more }
