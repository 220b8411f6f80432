use Rattle.std.proofs.lemmas.Grind.{common_steps}
use Rattle.std.proofs.Common.{◌≡◌, ◌<◌, length, arith, sym, ap, ◌∙◌, subst}
use Rattle.std.proofs.lemmas.Bool.Decides.{nat_tests}
use Rattle.std.specs.Map.{lookup}
use Rattle.std.specs.BTreeMap.{is_at, insert_entry}
use Rattle.sorted_runs.specs.Places.{IsRunFor}
use Rattle.sorted_runs.proofs.Lists.{firsts_rise, in_runs, missed, sorted_run}
use Rattle.sorted_runs.proofs.Shaped.{always_err}
use Rattle.sorted_runs.proofs.Placed.{wrote_there, had_there, gap_place, gained_there, none_yet, first_ever, formed, in_order, kept_runs, finds_none, gains_first, same_run}
use Rattle.sorted_runs.proofs.SortedRuns.insert.Goals as goal

pub invariant_of-self-then-is_empty : goal.invariant_of-self-then-is_empty
invariant_of-self-then-is_empty g c =
    first_ever g.K.Ord.cmp c.open.new.firsts.items c.self.inside.runs.items c.open.new.runs.items (c.args.key, c.args.value) c.in_ok-open.ensures.shaped c.in_ok-open.ensures.gains
    (none_yet c.self.inside.firsts.items c.self.inside.runs.items c.self.invariant.headed (grind (arith, nat_tests)))

pub run_for-r-requires-clause-rising : goal.run_for-r-requires-clause-rising
run_for-r-requires-clause-rising g c = grind (arith, firsts_rise)

pub index-requires : goal.index-requires
index-requires g c =
    let at = subst (λ l. IsRunFor g.K.Ord.cmp l c.args.key c.run_for-r.result) c.deref.ensures.value c.run_for-r.ensures in
    let lt : c.run_for-r.result < length c.self.inside.runs.items = in_runs g.met.K.Ord.total c.args.key c.self.inside.firsts.items c.self.inside.runs.items c.self.inside.len c.self.invariant c.run_for-r.result at in
    let e = c.self.inside.runs.ok in
    omega arith

pub slot-requires : goal.slot-requires
slot-requires g c =
    let at = subst (λ l. IsRunFor g.K.Ord.cmp l c.args.key c.run_for-r.result) c.deref.ensures.value c.run_for-r.ensures in
    sorted_run g.met.K.Ord.total c.args.key c.self.inside.firsts.items c.self.inside.runs.items c.self.inside.len c.self.invariant c.run_for-r.result at c.index.result.now c.index.ensures c.deref-2.result.now c.deref-2.ensures.value

pub index_mut-requires : goal.index_mut-requires
index_mut-requires g c =
    let at = subst (λ l. IsRunFor g.K.Ord.cmp l c.args.key c.run_for-r.result) c.deref.ensures.value c.run_for-r.ensures in
    let lt : c.run_for-r.result < length c.self.inside.runs.items = in_runs g.met.K.Ord.total c.args.key c.self.inside.firsts.items c.self.inside.runs.items c.self.inside.len c.self.invariant c.run_for-r.result at in
    let e = c.self.inside.runs.ok in
    omega arith

pub write-requires : goal.write-requires
write-requires g c =
    let at = subst (λ l. IsRunFor g.K.Ord.cmp l c.args.key c.run_for-r.result) c.deref.ensures.value c.run_for-r.ensures in
    let same = ap (λ q. length q) (same_run g.met.K.Ord.total c.args.key c.self.inside.firsts.items c.self.inside.runs.items c.self.inside.len c.self.invariant c.run_for-r.result at c.index.result.now c.index.ensures c.deref-2.result.now c.deref-2.ensures.value c.index_mut.result.now c.index_mut.ensures.value) in
    let w = c.in-Ok.ensures.hit.within in
    omega arith

pub invariant_of-self-in-Ok : goal.invariant_of-self-in-Ok
invariant_of-self-in-Ok g c =
    let at = subst (λ l. IsRunFor g.K.Ord.cmp l c.args.key c.run_for-r.result) c.deref.ensures.value c.run_for-r.ensures in
    (wrote_there g.met.K.Ord.total c.args.key c.self.inside.firsts.items c.self.inside.runs.items c.self.inside.len c.self.invariant c.run_for-r.result at c.index.result.now c.index.ensures c.deref-2.result.now c.deref-2.ensures.value c.index_mut.result.now c.write.new.run c.in-Ok.at (c.args.key, c.args.value) c.args.value c.index_mut.ensures.value c.in-Ok.ensures.hit (c.write.ensures.written (c.args.key, c.args.value))).1

pub returns-in-Ok-clause-gains : goal.returns-in-Ok-clause-gains
returns-in-Ok-clause-gains g c =
    let at = subst (λ l. IsRunFor g.K.Ord.cmp l c.args.key c.run_for-r.result) c.deref.ensures.value c.run_for-r.ensures in
    (wrote_there g.met.K.Ord.total c.args.key c.self.inside.firsts.items c.self.inside.runs.items c.self.inside.len c.self.invariant c.run_for-r.result at c.index.result.now c.index.ensures c.deref-2.result.now c.deref-2.ensures.value c.index_mut.result.now c.write.new.run c.in-Ok.at (c.args.key, c.args.value) c.args.value c.index_mut.ensures.value c.in-Ok.ensures.hit (c.write.ensures.written (c.args.key, c.args.value))).0 ∙ ap (λ l. insert_entry g.K.Ord.cmp l c.args.key c.args.value) c.self.view_is

pub returns-in-Ok-clause-had : goal.returns-in-Ok-clause-had
returns-in-Ok-clause-had g c =
    let at = subst (λ l. IsRunFor g.K.Ord.cmp l c.args.key c.run_for-r.result) c.deref.ensures.value c.run_for-r.ensures in
    had_there g.met.K.Ord.total c.args.key c.self.inside.firsts.items c.self.inside.runs.items c.self.inside.len c.self.invariant c.run_for-r.result at c.index.result.now c.index.ensures c.deref-2.result.now c.deref-2.ensures.value c.index_mut.result.now c.in-Ok.at (c.args.key, c.args.value) c.write.result c.index_mut.ensures.value c.in-Ok.ensures.hit (c.write.ensures.was (c.args.key, c.args.value)) ∙ ap (λ l. lookup (is_at (g.K.Ord.cmp c.args.key)) l) c.self.view_is

pub add_counted-requires-clause-within : goal.add_counted-requires-clause-within
add_counted-requires-clause-within g c =
    let at = subst (λ l. IsRunFor g.K.Ord.cmp l c.args.key c.run_for-r.result) c.deref.ensures.value c.run_for-r.ensures in
    let lt : c.run_for-r.result < length c.self.inside.runs.items = in_runs g.met.K.Ord.total c.args.key c.self.inside.firsts.items c.self.inside.runs.items c.self.inside.len c.self.invariant c.run_for-r.result at in
    lt

pub add_counted-requires-clause-place : goal.add_counted-requires-clause-place
add_counted-requires-clause-place g c =
    let at = subst (λ l. IsRunFor g.K.Ord.cmp l c.args.key c.run_for-r.result) c.deref.ensures.value c.run_for-r.ensures in
    λ m. gap_place g.met.K.Ord.total c.args.key c.self.inside.firsts.items c.self.inside.runs.items c.self.inside.len c.self.invariant c.run_for-r.result at c.index.result.now c.index.ensures c.deref-2.result.now c.deref-2.ensures.value c.in-Err.at m c.in-Err.ensures.gap

pub returns-in_err-len-in-Err-clause-absent : goal.returns-in_err-len-in-Err-clause-absent
returns-in_err-len-in-Err-clause-absent g c =
    let at = subst (λ l. IsRunFor g.K.Ord.cmp l c.args.key c.run_for-r.result) c.deref.ensures.value c.run_for-r.ensures in
    always_err _ (sym (ap (λ l. lookup (is_at (g.K.Ord.cmp c.args.key)) l) c.self.view_is) ∙ missed g.met.K.Ord.total c.args.key c.self.inside.firsts.items c.self.inside.runs.items c.self.inside.len c.self.invariant c.run_for-r.result at c.index.result.now c.index.ensures c.deref-2.result.now c.deref-2.ensures.value c.in-Err.at c.in-Err.ensures.gap)

pub invariant_of-self-in-Err : goal.invariant_of-self-in-Err
invariant_of-self-in-Err g c =
    let at = subst (λ l. IsRunFor g.K.Ord.cmp l c.args.key c.run_for-r.result) c.deref.ensures.value c.run_for-r.ensures in
    (gained_there g.met.K.Ord.total c.args.key c.self.inside.firsts.items c.self.inside.runs.items c.self.inside.len c.self.invariant c.run_for-r.result at c.index.result.now c.index.ensures c.deref-2.result.now c.deref-2.ensures.value c.in-Err.at c.args.value c.add_counted.new.firsts.items c.add_counted.new.runs.items c.in_ok-len-in-Err.len c.in-Err.ensures.gap c.in_ok-len-in-Err.ensures.shaped c.in_ok-len-in-Err.ensures.gains (let h = c.in_ok-len-in-Err.ensures.counts in omega arith)).1

pub returns-in_ok-len-in-Err-clause-gains : goal.returns-in_ok-len-in-Err-clause-gains
returns-in_ok-len-in-Err-clause-gains g c =
    let at = subst (λ l. IsRunFor g.K.Ord.cmp l c.args.key c.run_for-r.result) c.deref.ensures.value c.run_for-r.ensures in
    (gained_there g.met.K.Ord.total c.args.key c.self.inside.firsts.items c.self.inside.runs.items c.self.inside.len c.self.invariant c.run_for-r.result at c.index.result.now c.index.ensures c.deref-2.result.now c.deref-2.ensures.value c.in-Err.at c.args.value c.add_counted.new.firsts.items c.add_counted.new.runs.items c.in_ok-len-in-Err.len c.in-Err.ensures.gap c.in_ok-len-in-Err.ensures.shaped c.in_ok-len-in-Err.ensures.gains (let h = c.in_ok-len-in-Err.ensures.counts in omega arith)).0 ∙ ap (λ l. insert_entry g.K.Ord.cmp l c.args.key c.args.value) c.self.view_is

pub returns-in_ok-len-in-Err-clause-had : goal.returns-in_ok-len-in-Err-clause-had
returns-in_ok-len-in-Err-clause-had g c =
    let at = subst (λ l. IsRunFor g.K.Ord.cmp l c.args.key c.run_for-r.result) c.deref.ensures.value c.run_for-r.ensures in
    sym (sym (ap (λ l. lookup (is_at (g.K.Ord.cmp c.args.key)) l) c.self.view_is) ∙ missed g.met.K.Ord.total c.args.key c.self.inside.firsts.items c.self.inside.runs.items c.self.inside.len c.self.invariant c.run_for-r.result at c.index.result.now c.index.ensures c.deref-2.result.now c.deref-2.ensures.value c.in-Err.at c.in-Err.ensures.gap)

pub returns-in-Ok-clause-ordered : goal.returns-in-Ok-clause-ordered
returns-in-Ok-clause-ordered g c =
    let at = subst (λ l. IsRunFor g.K.Ord.cmp l c.args.key c.run_for-r.result) c.deref.ensures.value c.run_for-r.ensures in
    (wrote_there g.met.K.Ord.total c.args.key c.self.inside.firsts.items c.self.inside.runs.items c.self.inside.len c.self.invariant c.run_for-r.result at c.index.result.now c.index.ensures c.deref-2.result.now c.deref-2.ensures.value c.index_mut.result.now c.write.new.run c.in-Ok.at (c.args.key, c.args.value) c.args.value c.index_mut.ensures.value c.in-Ok.ensures.hit (c.write.ensures.written (c.args.key, c.args.value))).1.rising

pub returns-in_ok-len-in-Err-clause-ordered : goal.returns-in_ok-len-in-Err-clause-ordered
returns-in_ok-len-in-Err-clause-ordered g c =
    let at = subst (λ l. IsRunFor g.K.Ord.cmp l c.args.key c.run_for-r.result) c.deref.ensures.value c.run_for-r.ensures in
    (gained_there g.met.K.Ord.total c.args.key c.self.inside.firsts.items c.self.inside.runs.items c.self.inside.len c.self.invariant c.run_for-r.result at c.index.result.now c.index.ensures c.deref-2.result.now c.deref-2.ensures.value c.in-Err.at c.args.value c.add_counted.new.firsts.items c.add_counted.new.runs.items c.in_ok-len-in-Err.len c.in-Err.ensures.gap c.in_ok-len-in-Err.ensures.shaped c.in_ok-len-in-Err.ensures.gains (let h = c.in_ok-len-in-Err.ensures.counts in omega arith)).1.rising

pub returns-then-is_empty-clause-ordered : goal.returns-then-is_empty-clause-ordered
returns-then-is_empty-clause-ordered g c = (invariant_of-self-then-is_empty g c).rising

pub invariant_of-self : goal.invariant_of-self
invariant_of-self g c = kept_runs g.K.Ord.cmp c.self.invariant c.in_err-open.ensures.shaped c.in_err-open.ensures.unchanged

pub returns-in_err-open-clause-absent : goal.returns-in_err-open-clause-absent
returns-in_err-open-clause-absent g c =
    let z : length c.self.inside.firsts.items ≡ 0 = grind (arith, nat_tests) in
    always_err _ (finds_none g.K.Ord.cmp c.self.invariant z _ c.self.view_is c.args.key)

pub returns-then-is_empty-clause-had : goal.returns-then-is_empty-clause-had
returns-then-is_empty-clause-had g c =
    let z : length c.self.inside.firsts.items ≡ 0 = grind (arith, nat_tests) in
    sym (finds_none g.K.Ord.cmp c.self.invariant z _ c.self.view_is c.args.key)

pub returns-then-is_empty-clause-gains : goal.returns-then-is_empty-clause-gains
returns-then-is_empty-clause-gains g c =
    let z : length c.self.inside.firsts.items ≡ 0 = grind (arith, nat_tests) in
    gains_first g.K.Ord.cmp c.self.invariant z _ c.self.view_is c.args.key c.args.value c.open.new.runs.items c.in_ok-open.ensures.gains

pub returns-then-is_empty-clause-was_ordered : goal.returns-then-is_empty-clause-was_ordered
returns-then-is_empty-clause-was_ordered g c = in_order g.K.Ord.cmp c.self.invariant _ c.self.view_is

pub add_counted-requires-clause-shaped : goal.add_counted-requires-clause-shaped
add_counted-requires-clause-shaped g c = formed g.K.Ord.cmp c.self.invariant

pub invariant_of-self-in_err-len-in-Err : goal.invariant_of-self-in_err-len-in-Err
invariant_of-self-in_err-len-in-Err g c = kept_runs g.K.Ord.cmp c.self.invariant c.in_err-len-in-Err.ensures.shaped c.in_err-len-in-Err.ensures.unchanged

pub returns-in_err-len-in-Err-clause-unchanged : goal.returns-in_err-len-in-Err-clause-unchanged
returns-in_err-len-in-Err-clause-unchanged g c = always_err _ (c.in_err-len-in-Err.ensures.unchanged ∙ c.self.view_is)

pub returns-in_err-len-in-Err-clause-was_ordered : goal.returns-in_err-len-in-Err-clause-was_ordered
returns-in_err-len-in-Err-clause-was_ordered g c = in_order g.K.Ord.cmp c.self.invariant _ c.self.view_is

pub returns-in_err-len-in-Err-clause-ordered : goal.returns-in_err-len-in-Err-clause-ordered
returns-in_err-len-in-Err-clause-ordered g c = in_order g.K.Ord.cmp c.self.invariant _ (sym c.in_err-len-in-Err.ensures.unchanged)

pub returns-in_ok-len-in-Err-clause-was_ordered : goal.returns-in_ok-len-in-Err-clause-was_ordered
returns-in_ok-len-in-Err-clause-was_ordered g c = in_order g.K.Ord.cmp c.self.invariant _ c.self.view_is

pub returns-in-Ok-clause-was_ordered : goal.returns-in-Ok-clause-was_ordered
returns-in-Ok-clause-was_ordered g c = in_order g.K.Ord.cmp c.self.invariant _ c.self.view_is

pub returns-in_err-open-clause-unchanged : goal.returns-in_err-open-clause-unchanged
returns-in_err-open-clause-unchanged g c = always_err _ (c.in_err-open.ensures.unchanged ∙ c.self.view_is)

pub returns-in_err-open-clause-was_ordered : goal.returns-in_err-open-clause-was_ordered
returns-in_err-open-clause-was_ordered g c = in_order g.K.Ord.cmp c.self.invariant _ c.self.view_is

pub returns-in_err-open-clause-ordered : goal.returns-in_err-open-clause-ordered
returns-in_err-open-clause-ordered g c = in_order g.K.Ord.cmp c.self.invariant _ (sym c.in_err-open.ensures.unchanged)

pub returns-in_ok-len-in-Err-clause-unchanged : goal.returns-in_ok-len-in-Err-clause-unchanged
returns-in_ok-len-in-Err-clause-unchanged g c = grind (arith, common_steps)

pub returns-in_ok-len-in-Err-clause-returned : goal.returns-in_ok-len-in-Err-clause-returned
returns-in_ok-len-in-Err-clause-returned g c = grind (arith, common_steps)

pub returns-in_ok-len-in-Err-clause-absent : goal.returns-in_ok-len-in-Err-clause-absent
returns-in_ok-len-in-Err-clause-absent g c = grind (arith, common_steps)

pub run_for-r-requires-clause-some : goal.run_for-r-requires-clause-some
run_for-r-requires-clause-some g c = grind (arith, common_steps)
