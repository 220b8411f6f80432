use Rattle.std.proofs.Common.{◌<◌, ◌-◌, length, arith, sym, ap, ◌∙◌, subst, ◌≡◌}
use Rattle.std.specs.Map.{lookup, remove_entry}
use Rattle.std.specs.BTreeMap.{is_at}
use Rattle.sorted_runs.specs.Places.{IsRunFor}
use Rattle.std.proofs.lemmas.Bool.Decides.{nat_tests}
use Rattle.sorted_runs.proofs.Placed.{in_order, formed, finds_none, loses_none}
use Rattle.sorted_runs.proofs.Lists.{firsts_rise, in_runs, missed, sorted_run}
use Rattle.sorted_runs.proofs.Removed.{hit_place, gone_is, had_here, held, gap_stays, entry_there}
use Rattle.sorted_runs.proofs.SortedRuns.remove.Goals as goal

pub run_for-r-requires-clause-rising : goal.run_for-r-requires-clause-rising
run_for-r-requires-clause-rising g c = grind (arith, firsts_rise)

pub index-requires : goal.index-requires
index-requires g c =
    let at = subst (λ l. IsRunFor g.K.Ord.cmp l c.args.key.now c.run_for-r.result) c.deref.ensures.value c.run_for-r.ensures in
    let lt : c.run_for-r.result < length c.self.inside.runs.items = in_runs g.met.K.Ord.total c.args.key.now c.self.inside.firsts.items c.self.inside.runs.items c.self.inside.len c.self.invariant c.run_for-r.result at in
    let e = c.self.inside.runs.ok in
    omega arith

pub slot_within-requires : goal.slot_within-requires
slot_within-requires g c =
    let at = subst (λ l. IsRunFor g.K.Ord.cmp l c.args.key.now c.run_for-r.result) c.deref.ensures.value c.run_for-r.ensures in
    sorted_run g.met.K.Ord.total c.args.key.now c.self.inside.firsts.items c.self.inside.runs.items c.self.inside.len c.self.invariant c.run_for-r.result at c.index.result.now c.index.ensures c.deref-2.result.now c.deref-2.ensures.value

pub take_out-value-requires-clause-within : goal.take_out-value-requires-clause-within
take_out-value-requires-clause-within g c =
    let at = subst (λ l. IsRunFor g.K.Ord.cmp l c.args.key.now c.run_for-r.result) c.deref.ensures.value c.run_for-r.ensures in
    let lt : c.run_for-r.result < length c.self.inside.runs.items = in_runs g.met.K.Ord.total c.args.key.now c.self.inside.firsts.items c.self.inside.runs.items c.self.inside.len c.self.invariant c.run_for-r.result at in
    lt

pub take_out-value-requires-clause-place : goal.take_out-value-requires-clause-place
take_out-value-requires-clause-place g c =
    let at = subst (λ l. IsRunFor g.K.Ord.cmp l c.args.key.now c.run_for-r.result) c.deref.ensures.value c.run_for-r.ensures in
    λ m. hit_place g.met.K.Ord.total c.args.key.now c.self.inside.firsts.items c.self.inside.runs.items c.self.inside.len c.self.invariant c.run_for-r.result at c.index.result.now c.index.ensures c.deref-2.result.now c.deref-2.ensures.value c.in-Ok.at c.in-Ok.ensures.hit m

pub invariant_of-self : goal.invariant_of-self
invariant_of-self g c =
    let at = subst (λ l. IsRunFor g.K.Ord.cmp l c.args.key.now c.run_for-r.result) c.deref.ensures.value c.run_for-r.ensures in
    (gone_is g.met.K.Ord.total c.args.key.now c.self.inside.firsts.items c.self.inside.runs.items c.self.inside.len c.self.invariant c.run_for-r.result at c.index.result.now c.index.ensures c.deref-2.result.now c.deref-2.ensures.value c.in-Ok.at c.in-Ok.ensures.hit (entry_there c.deref-2.result.now c.in-Ok.at c.in-Ok.ensures.hit.within) c.take_out-value.new.firsts.items c.take_out-value.new.runs.items (c.self.inside.len - 1) c.take_out-value.ensures.shaped (c.take_out-value.ensures.loses c.index.result.now) (let h = held g.met.K.Ord.total c.args.key.now c.self.inside.firsts.items c.self.inside.runs.items c.self.inside.len c.self.invariant c.run_for-r.result at c.index.result.now c.index.ensures c.deref-2.result.now c.deref-2.ensures.value c.in-Ok.at c.in-Ok.ensures.hit (entry_there c.deref-2.result.now c.in-Ok.at c.in-Ok.ensures.hit.within) in omega arith)).1

pub returns-in-Ok-clause-loses : goal.returns-in-Ok-clause-loses
returns-in-Ok-clause-loses g c =
    let at = subst (λ l. IsRunFor g.K.Ord.cmp l c.args.key.now c.run_for-r.result) c.deref.ensures.value c.run_for-r.ensures in
    (gone_is g.met.K.Ord.total c.args.key.now c.self.inside.firsts.items c.self.inside.runs.items c.self.inside.len c.self.invariant c.run_for-r.result at c.index.result.now c.index.ensures c.deref-2.result.now c.deref-2.ensures.value c.in-Ok.at c.in-Ok.ensures.hit (entry_there c.deref-2.result.now c.in-Ok.at c.in-Ok.ensures.hit.within) c.take_out-value.new.firsts.items c.take_out-value.new.runs.items (c.self.inside.len - 1) c.take_out-value.ensures.shaped (c.take_out-value.ensures.loses c.index.result.now) (let h = held g.met.K.Ord.total c.args.key.now c.self.inside.firsts.items c.self.inside.runs.items c.self.inside.len c.self.invariant c.run_for-r.result at c.index.result.now c.index.ensures c.deref-2.result.now c.deref-2.ensures.value c.in-Ok.at c.in-Ok.ensures.hit (entry_there c.deref-2.result.now c.in-Ok.at c.in-Ok.ensures.hit.within) in omega arith)).0 ∙ ap (λ l. remove_entry (is_at (g.K.Ord.cmp c.args.key.now)) l) c.self.view_is

pub returns-in-Ok-clause-had : goal.returns-in-Ok-clause-had
returns-in-Ok-clause-had g c =
    let at = subst (λ l. IsRunFor g.K.Ord.cmp l c.args.key.now c.run_for-r.result) c.deref.ensures.value c.run_for-r.ensures in
    had_here g.met.K.Ord.total c.args.key.now c.self.inside.firsts.items c.self.inside.runs.items c.self.inside.len c.self.invariant c.run_for-r.result at c.index.result.now c.index.ensures c.deref-2.result.now c.deref-2.ensures.value c.in-Ok.at c.in-Ok.ensures.hit (entry_there c.deref-2.result.now c.in-Ok.at c.in-Ok.ensures.hit.within) c.take_out-value.result (c.take_out-value.ensures.value c.index.result.now (entry_there c.deref-2.result.now c.in-Ok.at c.in-Ok.ensures.hit.within)) ∙ ap (λ l. lookup (is_at (g.K.Ord.cmp c.args.key.now)) l) c.self.view_is

pub returns-in-Err-clause-had : goal.returns-in-Err-clause-had
returns-in-Err-clause-had g c =
    let at = subst (λ l. IsRunFor g.K.Ord.cmp l c.args.key.now c.run_for-r.result) c.deref.ensures.value c.run_for-r.ensures in
    rw (← c.self.view_is) (sym (missed g.met.K.Ord.total c.args.key.now c.self.inside.firsts.items c.self.inside.runs.items c.self.inside.len c.self.invariant c.run_for-r.result at c.index.result.now c.index.ensures c.deref-2.result.now c.deref-2.ensures.value c.in-Err.field-0 c.in-Err.ensures.gap))

pub returns-in-Err-clause-loses : goal.returns-in-Err-clause-loses
returns-in-Err-clause-loses g c =
    let at = subst (λ l. IsRunFor g.K.Ord.cmp l c.args.key.now c.run_for-r.result) c.deref.ensures.value c.run_for-r.ensures in
    rw (← c.self.view_is) (gap_stays g.met.K.Ord.total c.args.key.now c.self.inside.firsts.items c.self.inside.runs.items c.self.inside.len c.self.invariant c.run_for-r.result at c.index.result.now c.index.ensures c.deref-2.result.now c.deref-2.ensures.value c.in-Err.field-0 c.in-Err.ensures.gap)

pub returns-in-Ok-clause-ordered : goal.returns-in-Ok-clause-ordered
returns-in-Ok-clause-ordered g c =
    let at = subst (λ l. IsRunFor g.K.Ord.cmp l c.args.key.now c.run_for-r.result) c.deref.ensures.value c.run_for-r.ensures in
    (gone_is g.met.K.Ord.total c.args.key.now c.self.inside.firsts.items c.self.inside.runs.items c.self.inside.len c.self.invariant c.run_for-r.result at c.index.result.now c.index.ensures c.deref-2.result.now c.deref-2.ensures.value c.in-Ok.at c.in-Ok.ensures.hit (entry_there c.deref-2.result.now c.in-Ok.at c.in-Ok.ensures.hit.within) c.take_out-value.new.firsts.items c.take_out-value.new.runs.items (c.self.inside.len - 1) c.take_out-value.ensures.shaped (c.take_out-value.ensures.loses c.index.result.now) (let h = held g.met.K.Ord.total c.args.key.now c.self.inside.firsts.items c.self.inside.runs.items c.self.inside.len c.self.invariant c.run_for-r.result at c.index.result.now c.index.ensures c.deref-2.result.now c.deref-2.ensures.value c.in-Ok.at c.in-Ok.ensures.hit (entry_there c.deref-2.result.now c.in-Ok.at c.in-Ok.ensures.hit.within) in omega arith)).1.rising

pub returns-then-is_empty-clause-had : goal.returns-then-is_empty-clause-had
returns-then-is_empty-clause-had g c =
    let z : length c.self.inside.firsts.items ≡ 0 = grind (arith, nat_tests) in
    sym (finds_none g.K.Ord.cmp c.self.invariant z _ c.self.view_is c.args.key.now)

pub returns-in-Ok-clause-was_ordered : goal.returns-in-Ok-clause-was_ordered
returns-in-Ok-clause-was_ordered g c = in_order g.K.Ord.cmp c.self.invariant _ c.self.view_is

pub returns-in-Err-clause-was_ordered : goal.returns-in-Err-clause-was_ordered
returns-in-Err-clause-was_ordered g c = in_order g.K.Ord.cmp c.self.invariant _ c.self.view_is

pub returns-then-is_empty-clause-was_ordered : goal.returns-then-is_empty-clause-was_ordered
returns-then-is_empty-clause-was_ordered g c = in_order g.K.Ord.cmp c.self.invariant _ c.self.view_is

pub returns-then-is_empty-clause-ordered : goal.returns-then-is_empty-clause-ordered
returns-then-is_empty-clause-ordered g c = in_order g.K.Ord.cmp c.self.invariant _ c.self.view_is

pub take_out-value-requires-clause-shaped : goal.take_out-value-requires-clause-shaped
take_out-value-requires-clause-shaped g c = formed g.K.Ord.cmp c.self.invariant

pub returns-then-is_empty-clause-loses : goal.returns-then-is_empty-clause-loses
returns-then-is_empty-clause-loses g c =
    let z : length c.self.inside.firsts.items ≡ 0 = grind (arith, nat_tests) in
    loses_none g.K.Ord.cmp c.self.invariant z _ c.self.view_is (is_at (g.K.Ord.cmp c.args.key.now))

pub overflow_sub-self : goal.overflow_sub-self
overflow_sub-self g c =
    let at = subst (λ l. IsRunFor g.K.Ord.cmp l c.args.key.now c.run_for-r.result) c.deref.ensures.value c.run_for-r.ensures in
    let h = held g.met.K.Ord.total c.args.key.now c.self.inside.firsts.items c.self.inside.runs.items c.self.inside.len c.self.invariant c.run_for-r.result at c.index.result.now c.index.ensures c.deref-2.result.now c.deref-2.ensures.value c.in-Ok.at c.in-Ok.ensures.hit (entry_there c.deref-2.result.now c.in-Ok.at c.in-Ok.ensures.hit.within) in
    omega arith
