use Rattle.std.proofs.Common.{inr, Result, Ok, Err, IfOk, refl, subst}
use Rattle.std.specs.declared.alloc.AllocError.{AllocError}
use Rattle.segment_theorems.specs.State.{State}
use Rattle.volume.specs.declared.actions.Fault.{Fault}
use Rattle.volume.specs.declared.phases.Opening.{Opening}
use Rattle.volume.specs.declared.plans.CutPlan.{CutPlan}
use Rattle.volume.specs.declared.turns.Transition.{Transition}
use Rattle.volume.specs.Turning.{StopsWith}
use Rattle.volume.specs.Planning.{IsPlanFault, MakesPlan}
use Rattle.volume.specs.Opening.{Plans}
use Rattle.volume.proofs.pulling.settle.Goals as goal

ends_unplanned : (old : Opening) (union : State) (fault : Fault) (r : Result Transition AllocError) → IsPlanFault union fault
    → IfOk r (λ t. StopsWith t fault) → IfOk r (Plans old union old)
ends_unplanned old union fault (Ok turn) is stops = inr (fault, is, (stops, refl))
ends_unplanned old union fault (Err why) is stops = stops

pub returns-in-Err-clause-settles : goal.returns-in-Err-clause-settles
returns-in-Err-clause-settles c =
    let old = c.args.opening.now in let union = c.args.union in
    let made : MakesPlan union old.pair c.in_ok-plan.field-0 =
    subst (λ (r : Result (Result CutPlan Fault) AllocError). IfOk r (MakesPlan union old.pair)) c.in_ok-plan.was c.plan_for.ensures in
    let is : IsPlanFault union c.in-Err.fault = subst (λ (r : Result CutPlan Fault). MakesPlan union old.pair r) c.in-Err.is made in
    ends_unplanned old union c.in-Err.fault c.end.result is c.end.ensures
