use Rattle.std.proofs.lemmas.Grind.{common_steps}
use Rattle.std.proofs.Common.{◌<◌, arith}
use Rattle.std.proofs.lemmas.Result.{IfOk-weaker}
use Rattle.gossip_core.proofs.SizesTold.{short_size, whole_size}
use Rattle.gossip_core.proofs.sizes.reply_size.Goals as goal

pub returns-then-anchor-base_point-clause-size : goal.returns-then-anchor-base_point-clause-size
returns-then-anchor-base_point-clause-size c =
    let s = c.args.segment.now in let summary = c.args.summary.now in
    IfOk-weaker c.with_pages_size.result _ _
    (λ n sends. whole_size c.reply_fills.ensures c.same_anchor.ensures s summary n (omega (arith, c.anchor.ensures.anchor, c.base_point.ensures.own, c.if-anchor-base_point.true)) sends)
    c.with_pages_size.ensures.size

pub returns-in-Ok-clause-size : goal.returns-in-Ok-clause-size
returns-in-Ok-clause-size c =
    let s = c.args.segment.now in let summary = c.args.summary.now in
    short_size c.reply_fills.ensures c.same_anchor.ensures s summary c.in-Ok.size (omega (arith, c.anchor.ensures.anchor, c.base_point.ensures.own, c.if-anchor-base_point.false)) c.in-Ok.ensures

pub returns-then-anchor-base_point-clause-broken : goal.returns-then-anchor-base_point-clause-broken
returns-then-anchor-base_point-clause-broken c =
    let high : c.args.summary.now.anchor < c.args.segment.now.base =
    omega (arith, c.anchor.ensures.anchor, c.base_point.ensures.own, c.if-anchor-base_point.true) in
    λ page n. (
      λ e. (high, (c.with_pages_size.ensures.broken page n).0 e),
      λ h. (c.with_pages_size.ensures.broken page n).1 h.1,
    )

pub returns-in-Ok-clause-broken : goal.returns-in-Ok-clause-broken
returns-in-Ok-clause-broken c = grind (arith, common_steps)

pub returns-in-Err-clause-broken : goal.returns-in-Err-clause-broken
returns-in-Err-clause-broken c = grind (arith, common_steps)

pub returns-then-anchor-base_point-clause-refused : goal.returns-then-anchor-base_point-clause-refused
returns-then-anchor-base_point-clause-refused c = grind (arith, common_steps)
