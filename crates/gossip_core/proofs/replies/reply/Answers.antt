use Rattle.std.proofs.lemmas.Grind.{common_steps}
use Rattle.std.proofs.Common.{◌<◌, arith, rules}
use Rattle.std.proofs.lemmas.Result.{IfOk-weaker}
use Rattle.gossip_core.proofs.Filling.{fills, answers_short, answers_whole}
use Rattle.gossip_core.proofs.replies.reply.Goals as goal

pub returns-then-anchor-base_point-clause-fills : goal.returns-then-anchor-base_point-clause-fills
returns-then-anchor-base_point-clause-fills c =
    let s = c.args.segment.now in let summary = c.args.summary.now in
    IfOk-weaker c.with_pages.result _ _ (λ d sends. fills c.reply_fills.ensures c.same_anchor.ensures s summary d
    (answers_whole s summary d (omega (arith, c.anchor.ensures.anchor, c.base_point.ensures.own, c.if-anchor-base_point.true)) sends))
    c.with_pages.ensures.sends

pub returns-in-Ok-clause-fills : goal.returns-in-Ok-clause-fills
returns-in-Ok-clause-fills c =
    let s = c.args.segment.now in let summary = c.args.summary.now in
    fills c.reply_fills.ensures c.same_anchor.ensures s summary c.in-Ok.delta
    (answers_short s summary c.in-Ok.delta (omega (arith, c.anchor.ensures.anchor, c.base_point.ensures.own, c.if-anchor-base_point.false)) c.in-Ok.ensures)

pub returns-then-anchor-base_point-clause-broken : goal.returns-then-anchor-base_point-clause-broken
returns-then-anchor-base_point-clause-broken c =
    let high : c.args.summary.now.anchor < c.args.segment.now.base =
    omega (arith, c.anchor.ensures.anchor, c.base_point.ensures.own, c.if-anchor-base_point.true) in
    λ page n. (
      λ e. (high, (c.with_pages.ensures.broken page n).0 e),
      λ h. (c.with_pages.ensures.broken page n).1 h.1,
    )

pub returns-in-Ok-clause-broken : goal.returns-in-Ok-clause-broken
returns-in-Ok-clause-broken c = grind (arith, common_steps)

pub returns-in-Err-clause-broken : goal.returns-in-Err-clause-broken
returns-in-Err-clause-broken c = grind (arith, common_steps)

pub returns-in-Ok-clause-answers : goal.returns-in-Ok-clause-answers
returns-in-Ok-clause-answers c = grind (arith, common_steps)

pub returns-then-anchor-base_point-clause-refused : goal.returns-then-anchor-base_point-clause-refused
returns-then-anchor-base_point-clause-refused c = grind (arith, common_steps)

pub returns-then-anchor-base_point-clause-answers : goal.returns-then-anchor-base_point-clause-answers
returns-then-anchor-base_point-clause-answers c = search rules
