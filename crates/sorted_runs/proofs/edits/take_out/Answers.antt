use Rattle.std.proofs.lemmas.Grind.{common_steps}
use Rattle.std.proofs.Common.{◌≡◌, ◌<◌, length, arith, rules}
use Rattle.std.proofs.lemmas.Bool.Decides.{nat_tests}
use Rattle.sorted_runs.proofs.Lists.{as_many}
use Rattle.sorted_runs.proofs.Removed.{lost, lost_behind, lost_first, lost_run, lost_last}
use Rattle.sorted_runs.proofs.edits.take_out.Goals as goal

pub returns-else-at-eq0-clause-loses : goal.returns-else-at-eq0-clause-loses
returns-else-at-eq0-clause-loses g c = lost c.args.firsts.now.items c.args.runs.now.items c.args.r c.args.at c.index_mut-run.result.now c.remove-value.new.self c.requires.shaped c.requires.within c.index_mut-run.ensures.value (c.requires.place c.index_mut-run.result.now) c.remove-value.ensures.items

pub returns-then-at-eq0-clause-loses : goal.returns-then-at-eq0-clause-loses
returns-then-at-eq0-clause-loses g c = lost c.args.firsts.now.items c.args.runs.now.items c.args.r c.args.at c.index_mut-run.result.now c.remove-value.new.self c.requires.shaped c.requires.within c.index_mut-run.ensures.value (c.requires.place c.index_mut-run.result.now) c.remove-value.ensures.items

pub returns-else-at-eq0-clause-shaped : goal.returns-else-at-eq0-clause-shaped
returns-else-at-eq0-clause-shaped g c =
    lost_behind c.args.firsts.now.items c.args.runs.now.items c.args.r c.args.at c.index_mut-run.result.now c.remove-value.new.self c.requires.shaped c.requires.within c.index_mut-run.ensures.value (c.requires.place c.index_mut-run.result.now) c.remove-value.ensures.items (λ e. let n = c.if-at-eq0.false in absurd (omega arith))

pub returns-then-at-eq0-clause-shaped : goal.returns-then-at-eq0-clause-shaped
returns-then-at-eq0-clause-shaped g c =
    let e = c.remove-value.new.self.ok in
    let z : 0 < length c.remove-value.new.self.items = grind (arith, nat_tests) in
    lost_first c.args.firsts.now.items c.args.runs.now.items c.args.r c.args.at c.index_mut-run.result.now c.remove-value.new.self c.requires.shaped c.requires.within c.index_mut-run.ensures.value (c.requires.place c.index_mut-run.result.now) c.remove-value.ensures.items c.index.result.now z c.index.ensures

pub index_mut-requires : goal.index_mut-requires
index_mut-requires g c = omega (arith, as_many)

pub remove-requires-then-is_empty : goal.remove-requires-then-is_empty
remove-requires-then-is_empty g c = omega (arith, as_many)

pub returns-then-is_empty-clause-shaped : goal.returns-then-is_empty-clause-shaped
returns-then-is_empty-clause-shaped g c =
    let e = c.remove-value.new.self.ok in
    let z : length c.remove-value.new.self.items ≡ 0 = grind (arith, nat_tests) in
    rw (c.remove-then-is_empty.ensures.items, c.remove.ensures.items) (lost_run c.args.firsts.now.items c.args.runs.now.items c.args.r c.args.at c.index_mut-run.result.now c.remove-value.new.self c.requires.shaped c.requires.within c.index_mut-run.ensures.value (c.requires.place c.index_mut-run.result.now) c.remove-value.ensures.items z)

pub returns-then-is_empty-clause-loses : goal.returns-then-is_empty-clause-loses
returns-then-is_empty-clause-loses g c = search (rules, lost_last)

pub returns-then-at-eq0-clause-value : goal.returns-then-at-eq0-clause-value
returns-then-at-eq0-clause-value g c = grind (arith, common_steps)

pub returns-else-at-eq0-clause-value : goal.returns-else-at-eq0-clause-value
returns-else-at-eq0-clause-value g c = grind (arith, common_steps)

pub returns-then-is_empty-clause-value : goal.returns-then-is_empty-clause-value
returns-then-is_empty-clause-value g c = grind (arith, common_steps)

pub index-requires : goal.index-requires
index-requires g c = grind (arith, common_steps)
