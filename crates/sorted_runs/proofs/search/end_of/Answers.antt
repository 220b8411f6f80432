use Rattle.std.proofs.Common.{◌-◌, length, arith, refl, rules}
use Rattle.std.proofs.lemmas.List.{get_or_default}
use Rattle.sorted_runs.proofs.Lists.{as_many}
use Rattle.sorted_runs.proofs.Placed.{long_as_read}
use Rattle.sorted_runs.proofs.Cuts.{cut_last}
use Rattle.sorted_runs.proofs.search.end_of.Goals as goal

pub overflow_sub-run : goal.overflow_sub-run
overflow_sub-run g c = omega (arith, as_many)

pub bounds-runs-run : goal.bounds-runs-run
bounds-runs-run g c = omega (arith, as_many)

pub returns-in-Included-clause-cut : goal.returns-in-Included-clause-cut
returns-in-Included-clause-cut g c = rw c.in-Included.is c.place_of.ensures.cut

pub returns-in-Excluded-clause-cut : goal.returns-in-Excluded-clause-cut
returns-in-Excluded-clause-cut g c = rw c.in-Excluded.is c.place_of-in-Excluded.ensures.cut

pub returns-in-Unbounded-clause-within : goal.returns-in-Unbounded-clause-within
returns-in-Unbounded-clause-within g c = omega (arith, as_many)

pub returns-in-Unbounded-clause-place : goal.returns-in-Unbounded-clause-place
returns-in-Unbounded-clause-place g c = search (rules, as_many, get_or_default)

pub returns-in-Unbounded-clause-cut : goal.returns-in-Unbounded-clause-cut
returns-in-Unbounded-clause-cut g c =
    let e = as_many c.args.firsts.now c.args.runs.now c.requires.whole.headed in
    let h = c.requires.some in
    let read = long_as_read c.args.runs.now (length c.args.runs.now - 1) c.index-runs-run.result c.index-runs-run.is in
    let long = c.len.ensures in
    rw c.in-Unbounded.is (cut_last _ (λ q. refl) c.args.runs.now (length c.args.runs.now - 1) c.len.result c.index-runs-run.result (omega arith) (omega arith))
