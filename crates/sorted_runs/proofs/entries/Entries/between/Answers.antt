use Rattle.std.proofs.lemmas.Grind.{common_steps}
use Rattle.std.proofs.Common.{arith, refl, rules}
use Rattle.sorted_runs.proofs.Lists.{take_long}
use Rattle.sorted_runs.proofs.Parts.{read_runs, read_same, between_none, read_long}
use Rattle.sorted_runs.proofs.entries.Entries.between.Goals.{then-from-to-2-via-then-from-to-2, then-from-to-2-via-else-from-to-2+then-from-to-3}
use Rattle.sorted_runs.proofs.entries.Entries.between.Goals as goal

pub returns-then-from-to : goal.returns-then-from-to
returns-then-from-to g c = grind (arith, read_runs)

pub returns-then-from-to-2 : goal.returns-then-from-to-2
returns-then-from-to-2 g c = search (rules, between_none)

pub returns : goal.returns
returns g c =
    let a = c.index-runs-from.result in
    let b = c.index-runs-to.result in
    read_same c.args.runs.now a b c.args.from.run c.args.from.at c.args.to.run c.args.to.at c.requires.to_within (c.requires.to_place b) c.index-runs-from.is c.index-runs-to.is c.deref-2.result.now b.items c.deref-2.ensures.value refl c.requires.from_within (let h = c.if-from-to.false in let k = c.if-from-to-2.false in omega arith)

pub slice_bounds-result-count : goal.slice_bounds-result-count
slice_bounds-result-count g c =
    let a = c.index-runs-from.result in
    let long = read_long c.args.runs.now a c.args.from.run c.deref.result.now c.index-runs-from.is c.deref.ensures.value in
    let place = c.requires.from_place a in
    omega arith

pub slice_bounds-result-start : goal.slice_bounds-result-start
slice_bounds-result-start g c =
    let a = c.index-runs-from.result in
    let long = read_long c.args.runs.now a c.args.from.run c.deref.result.now c.index-runs-from.is c.deref.ensures.value in
    let place = c.requires.from_place a in
    omega arith

pub slice_bounds-result-end-then-from-to-2 : goal.slice_bounds-result-end-then-from-to-2
slice_bounds-result-end-then-from-to-2 g c =
    let a = c.index-runs-to.result in
    let long = read_long c.args.runs.now a c.args.to.run c.deref-then-from-to.result.now c.index-runs-to.is c.deref-then-from-to.ensures.value in
    let place = c.requires.to_place a in
    let taken = take_long c.deref-then-from-to.result.now c.args.to.at (omega arith) in
    omega arith

pub offset_bounds-deref-from-2 : goal.offset_bounds-deref-from-2
offset_bounds-deref-from-2 g c = grind (arith, common_steps)

pub offset_bounds-deref-from : goal.offset_bounds-deref-from
offset_bounds-deref-from g c = grind (arith, common_steps)

pub slice_bounds-result-end-2 : goal.slice_bounds-result-end-2
slice_bounds-result-end-2 g c = grind (arith, common_steps)
