use Rattle.std.proofs.Common.{map, ap, sym, subst, ◌∙◌}
use Rattle.redo_core.specs.Order.{Lists, RecordBefore}
use Rattle.hot_log.proofs.Pages.{if_ok}
use Rattle.gossip_core.specs.Replying.{IsSent}
use Rattle.gossip_core.proofs.unlisted.unlisted.Goals as goal

pub returns : goal.returns
returns c =
    if_ok c.copies.result _ _
    (λ v is. subst (Lists RecordBefore (IsSent c.args.segment.now c.args.point c.args.keys.now)) (sym (is ∙ ap (λ l. map (λ r. r.now) l) c.deref.ensures.value)) c.in_ok-found.ensures)
    c.copies.ensures
