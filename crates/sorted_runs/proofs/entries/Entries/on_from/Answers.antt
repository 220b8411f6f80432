use Rattle.std.proofs.lemmas.Grind.{common_steps}
use Rattle.std.proofs.Common.{arith}
use Rattle.sorted_runs.proofs.Parts.{read_on, read_long}
use Rattle.sorted_runs.proofs.entries.Entries.on_from.Goals as goal

pub slice_bounds-result-start : goal.slice_bounds-result-start
slice_bounds-result-start g c =
    let a = c.index-runs-from.result in
    let long = read_long c.args.runs.now a c.args.from.run c.deref.result.now c.index-runs-from.is c.deref.ensures.value in
    let place = c.requires.place a in
    omega arith

pub slice_bounds-result-count : goal.slice_bounds-result-count
slice_bounds-result-count g c =
    let a = c.index-runs-from.result in
    let long = read_long c.args.runs.now a c.args.from.run c.deref.result.now c.index-runs-from.is c.deref.ensures.value in
    let place = c.requires.place a in
    omega arith

pub returns : goal.returns
returns g c =
    let a = c.index-runs-from.result in
    read_on c.args.runs.now a c.args.from.run c.args.from.at c.requires.within (c.requires.place a) c.index-runs-from.is c.deref.result.now c.deref.ensures.value

pub offset_bounds-deref-from : goal.offset_bounds-deref-from
offset_bounds-deref-from g c = grind (arith, common_steps)
