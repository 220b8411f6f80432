use Rattle.std.proofs.Common.{subst}
use Rattle.hot_log.specs.Kept.{ListsKeysOf}
use Rattle.segment_theorems.specs.State.{State}
use Rattle.segment_theorems.specs.HasMeaning.{IsKeptBy}
use Rattle.hot_log.proofs.Pages.{if_ok}
use Rattle.segment_core.proofs.segment.Segment.kept_keys.Goals as goal

pub returns-clause-keys : goal.returns-clause-keys
returns-clause-keys c =
    if_ok c.kept_keys.result _ _
    (λ v keys. subst (λ (s : State). ListsKeysOf (IsKeptBy s c.args.point) v.items) c.self.view_is keys)
    c.kept_keys.ensures
