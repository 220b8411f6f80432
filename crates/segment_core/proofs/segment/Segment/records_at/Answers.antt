use Rattle.std.proofs.Common.{map, IfOk, subst}
use Rattle.hot_log.specs.Alive.{IsHeldOf}
use Rattle.hot_log.specs.Anew.{ListsAnew}
use Rattle.segment_theorems.specs.State.{State}
use Rattle.segment_theorems.specs.Shows.{IsApplied}
use Rattle.segment_core.proofs.segment.Segment.records_at.Goals as goal

pub returns-clause-anew : goal.returns-clause-anew
returns-clause-anew c =
    let i = c.self.inside in
    subst (λ (s : State). IfOk c.records_since_init.result (λ v. ListsAnew (IsApplied s c.args.page c.args.point) (map (λ x. x.now) v.items))) c.self.view_is
    (subst (λ version. IfOk c.records_since_init.result (λ v. ListsAnew (IsHeldOf i.book i.hot c.args.page version c.args.point) (map (λ x. x.now) v.items)))
    c.version-version.ensures c.records_since_init.ensures)
