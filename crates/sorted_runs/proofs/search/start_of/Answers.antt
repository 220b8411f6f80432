use Rattle.std.proofs.Common.{arith, refl}
use Rattle.sorted_runs.specs.Rows.{entries}
use Rattle.sorted_runs.proofs.Lists.{as_many}
use Rattle.sorted_runs.proofs.Cuts.{cut_start}
use Rattle.sorted_runs.proofs.search.start_of.Goals as goal

pub returns-in-Unbounded-clause-within : goal.returns-in-Unbounded-clause-within
returns-in-Unbounded-clause-within g c = omega (arith, as_many)

pub returns-in-Unbounded-clause-cut : goal.returns-in-Unbounded-clause-cut
returns-in-Unbounded-clause-cut g c = rw c.in-Unbounded.is (cut_start _ (λ q. refl) (entries c.args.runs.now))

pub returns-in-Included-clause-cut : goal.returns-in-Included-clause-cut
returns-in-Included-clause-cut g c = rw c.in-Included.is c.place_of.ensures.cut

pub returns-in-Excluded-clause-cut : goal.returns-in-Excluded-clause-cut
returns-in-Excluded-clause-cut g c = rw c.in-Excluded.is c.place_of-in-Excluded.ensures.cut
