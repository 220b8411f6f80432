use Rattle.std.proofs.Common.{subst, sym, [], rules}
use Rattle.segment_theorems.specs.Means.{Means}
use Rattle.node_cell.proofs.Keeping.{none_kept}
use Rattle.node_cell.proofs.kept.Kept.new.Goals as goal

pub returns-clause-empty : goal.returns-clause-empty
returns-clause-empty g c =
    let roster = g.L.LogName.roster in
    let log = g.L.LogName.log in
    let means : Means roster log [] c.in_ok-segment.segment =
    subst (λ r. Means r log [] c.in_ok-segment.segment) c.roster.ensures (c.in_ok-segment.ensures.means log) in
    subst (Means roster log []) (sym c.in_ok-cached.ensures) means

pub invariant_of-result : goal.invariant_of-result
invariant_of-result g c = search (rules, none_kept, returns-clause-empty)

pub returns-clause-keeps : goal.returns-clause-keeps
returns-clause-keeps g c = invariant_of-result g c
