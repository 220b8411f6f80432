use Rattle.std.proofs.Common.{ℕ, inr, List, Bool, false, Option, Result, Ok, Err, IfOk, IfSome, slice_set, subst}
use Rattle.std.specs.declared.alloc.AllocError.{AllocError}
use Rattle.messages.specs.Deltas.{DeltaData}
use Rattle.segment_theorems.specs.State.{State}
use Rattle.volume.specs.declared.phases.Opening.{Opening}
use Rattle.volume.specs.declared.turns.Transition.{Transition}
use Rattle.volume.specs.Opening.{asked_with, GrowsBy, GoesOnPulling, Pulls}
use Rattle.volume.proofs.pulling.pull.Goals as goal

-- the union has what the node has
pulled : (old : Opening) (node : ℕ) (left : List Bool) (delta : DeltaData) (union : State) (new : Opening) (r : Result Transition AllocError)
    → GrowsBy old.union (asked_with old) delta union → IfOk r (GoesOnPulling old union (slice_set left node false) new) → IfOk r (Pulls old node left delta new)
pulled old node left delta union new (Ok turn) grows goes = inr (union, grows, goes)
pulled old node left delta union new (Err why) grows goes = goes

pub returns-clause-pulls : goal.returns-clause-pulls
returns-clause-pulls c =
    let old = c.args.opening.now in
    let grown : IfSome c.in_ok-union.field-0 (GrowsBy old.union (asked_with old) c.args.delta.now) =
    subst (λ (r : Result (Option State) AllocError). IfOk r (λ o. IfSome o (GrowsBy old.union (asked_with old) c.args.delta.now))) c.in_ok-union.was c.grown_by.ensures.grows in
    let grows : GrowsBy old.union (asked_with old) c.args.delta.now c.in-Some.union =
    subst (λ (o : Option State). IfSome o (GrowsBy old.union (asked_with old) c.args.delta.now)) c.in-Some.is grown in
    pulled old c.args.node c.args.left c.args.delta.now c.in-Some.union c.go_on_pulling.new.opening c.go_on_pulling.result grows
    (subst (λ (left : List Bool). IfOk c.go_on_pulling.result (GoesOnPulling old c.in-Some.union left c.go_on_pulling.new.opening)) c.unmark.ensures c.go_on_pulling.ensures.goes)
