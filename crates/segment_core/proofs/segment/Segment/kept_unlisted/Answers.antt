use Rattle.std.proofs.Common.{map, subst, IfOk}
use Rattle.redo_core.specs.Order.{Lists, RecordBefore}
use Rattle.hot_log.specs.Kept.{IsKeptUnlisted}
use Rattle.segment_theorems.specs.State.{State}
use Rattle.segment_core.proofs.segment.Segment.kept_unlisted.Goals as goal

pub returns : goal.returns
returns c =
    subst (λ (s : State). IfOk c.kept_unlisted.result
    (λ v. Lists RecordBefore (IsKeptUnlisted s.book s.held c.args.point c.args.keys.now) (map (λ x. x.now) v.items))) c.self.view_is c.kept_unlisted.ensures
