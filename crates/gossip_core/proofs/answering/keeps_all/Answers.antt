use Rattle.std.proofs.Common.{List, get_or, subst}
use Rattle.std.specs.List.{Contains}
use Rattle.gossip_core.proofs.Accounting.{kept_is_covered}
use Rattle.gossip_core.proofs.answering.keeps_all.Goals as goal
use Rattle.redo_core.specs.declared.keys.Key.{Key}

pub returns-in-Ok : goal.returns-in-Ok
returns-in-Ok c = λ h k d lt.
    let key : Key = get_or c.args.keys.now k d in
    kept_is_covered c.args.segment.now c.args.anchor c.in-Ok.kept.items c.in-Ok.ensures.keys key
    (subst (λ (ks : List Key). Contains ks key) c.deref.ensures.value (c.are_among.ensures h k d lt))
