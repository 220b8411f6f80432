use Rattle.std.proofs.Common.{ℕ, inl, inr, Option, Result, Ok, Err, IfOk, ap, sym, subst}
use Rattle.std.specs.declared.alloc.AllocError.{AllocError}
use Rattle.redo_core.specs.Data.{CutData}
use Rattle.segment_theorems.specs.State.{State}
use Rattle.segment_core.specs.Reading.{IsFrontOf}
use Rattle.segment_core.specs.declared.answers.Front.{Front}
use Rattle.guard.specs.declared.requests.AcceptedCut.{AcceptedCut}
use Rattle.volume.specs.declared.actions.Fault.{Fault}
use Rattle.volume.specs.declared.plans.CutPlan.{CutPlan}
use Rattle.volume.specs.Planning.{IsPending, IsCommitPoint, IsOwnPlan, MakesPlan, FindsPoint}
use Rattle.volume.proofs.plans.plan_for.Goals as goal

own_made : (union : State) (pair : Option AcceptedCut) (front : Front) (lo : ℕ) (made : Result CutPlan Fault)
    → IsFrontOf union front → IsCommitPoint union front.complete lo → ((cut : CutData) → IsPending pair front.epoch cut → ⊥)
    → IsOwnPlan front.epoch lo front.complete made → MakesPlan union pair made
own_made union pair front lo (Err fault) own at none is = (front, own, inr (lo, at, is))
own_made union pair front lo (Ok plan) own at none is =
    inr (
      is.0,
      subst (λ (n : ℕ). (cut : CutData) → IsPending pair n cut → ⊥) own.epoch none,
      record {
        front = front;
        own = own;
        epoch = ap (λ (c : CutData). c.epoch) is.1;
        lo = subst (λ (n : ℕ). IsCommitPoint union front.complete n) (sym (ap (λ (c : CutData). c.lo) is.1)) at;
        hi = ap (λ (c : CutData). c.hi) is.1;
      },
    )

pub returns-in-Ok : goal.returns-in-Ok
returns-in-Ok c =
    let found : FindsPoint c.args.union.now c.front-front.result.complete c.in_ok-lo.field-0 =
    subst (λ (r : Result (Result ℕ Fault) AllocError). IfOk r (λ x. FindsPoint c.args.union.now c.front-front.result.complete x)) c.in_ok-lo.was c.commit_point.ensures in
    own_made c.args.union.now c.args.pair.now c.front-front.result c.in-Ok.lo c.own_plan.result c.front-front.ensures.own
    (subst (λ (r : Result ℕ Fault). FindsPoint c.args.union.now c.front-front.result.complete r) c.in-Ok.is found)
    c.in_default.ensures.none c.own_plan.ensures

pub returns-in-Err : goal.returns-in-Err
returns-in-Err c =
    let found : FindsPoint c.args.union.now c.front-front.result.complete c.in_ok-lo.field-0 =
    subst (λ (r : Result (Result ℕ Fault) AllocError). IfOk r (λ x. FindsPoint c.args.union.now c.front-front.result.complete x)) c.in_ok-lo.was c.commit_point.ensures in
    (c.front-front.result, c.front-front.ensures.own, inl (subst (λ (r : Result ℕ Fault). FindsPoint c.args.union.now c.front-front.result.complete r) c.in-Err.is found))
