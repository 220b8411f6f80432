use Rattle.sorted_runs.proofs.SortedRuns.new.Goals as goal
use Rattle.sorted_runs.proofs.Lists.{none_is}

pub invariant_of-result : goal.invariant_of-result
invariant_of-result g c = rw (c.new.ensures.items, c.new-2.ensures.items) (none_is g.K.Ord.cmp)
