use Rattle.std.proofs.lemmas.Grind.{common_steps}
use Rattle.std.proofs.Common.{◌<◌, length, arith, sym, subst}
use Rattle.sorted_runs.specs.Places.{IsRunFor}
use Rattle.sorted_runs.proofs.Lists.{firsts_rise, in_runs, found, missed, sorted_run}
use Rattle.sorted_runs.proofs.SortedRuns.get.Goals as goal

pub run_for-r-requires-clause-rising : goal.run_for-r-requires-clause-rising
run_for-r-requires-clause-rising g c = rw c.deref.ensures.value (firsts_rise g.met.K.Ord.total c.args.key.now _ _ _ c.self.invariant)

pub index-run-requires : goal.index-run-requires
index-run-requires g c =
    let at = subst (λ l. IsRunFor g.K.Ord.cmp l c.args.key.now c.run_for-r.result) c.deref.ensures.value c.run_for-r.ensures in
    let lt : c.run_for-r.result < length c.self.inside.runs.items = in_runs g.met.K.Ord.total c.args.key.now _ _ _ c.self.invariant c.run_for-r.result at in
    let e = c.self.inside.runs.ok in
    omega arith

pub slot_within-requires : goal.slot_within-requires
slot_within-requires g c =
    let at = subst (λ l. IsRunFor g.K.Ord.cmp l c.args.key.now c.run_for-r.result) c.deref.ensures.value c.run_for-r.ensures in
    sorted_run g.met.K.Ord.total c.args.key.now _ _ _ c.self.invariant c.run_for-r.result at c.index-run.result.now c.index-run.ensures c.deref-2.result.now c.deref-2.ensures.value

pub returns-in-Ok-clause-value : goal.returns-in-Ok-clause-value
returns-in-Ok-clause-value g c =
    let at = subst (λ l. IsRunFor g.K.Ord.cmp l c.args.key.now c.run_for-r.result) c.deref.ensures.value c.run_for-r.ensures in
    rw (← c.self.view_is) (sym (found g.met.K.Ord.total c.args.key.now _ _ _ c.self.invariant c.run_for-r.result at c.index-run.result.now c.index-run.ensures c.deref-2.result.now c.deref-2.ensures.value c.in-Ok.at c.index.result.now c.index.ensures c.in-Ok.ensures.hit))

pub returns-in-Err-clause-value : goal.returns-in-Err-clause-value
returns-in-Err-clause-value g c =
    let at = subst (λ l. IsRunFor g.K.Ord.cmp l c.args.key.now c.run_for-r.result) c.deref.ensures.value c.run_for-r.ensures in
    rw (← c.self.view_is) (sym (missed g.met.K.Ord.total c.args.key.now _ _ _ c.self.invariant c.run_for-r.result at c.index-run.result.now c.index-run.ensures c.deref-2.result.now c.deref-2.ensures.value c.in-Err.field-0 c.in-Err.ensures.gap))

pub run_for-r-requires-clause-some : goal.run_for-r-requires-clause-some
run_for-r-requires-clause-some g c = grind (arith, common_steps)

pub returns-then-is_empty-clause-ordered : goal.returns-then-is_empty-clause-ordered
returns-then-is_empty-clause-ordered g c = grind (arith, common_steps)

pub returns-in-Err-clause-ordered : goal.returns-in-Err-clause-ordered
returns-in-Err-clause-ordered g c = grind (arith, common_steps)

pub returns-in-Ok-clause-ordered : goal.returns-in-Ok-clause-ordered
returns-in-Ok-clause-ordered g c = grind (arith, common_steps)

pub returns-then-is_empty-clause-value : goal.returns-then-is_empty-clause-value
returns-then-is_empty-clause-value g c = grind (arith, common_steps)
