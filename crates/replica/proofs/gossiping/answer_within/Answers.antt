use Rattle.std.proofs.Common.{◌<◌, ◌≤◌, sym, subst, arith}
use Rattle.replica.specs.Gossiping.{RepliesWithin}
use Rattle.replica.proofs.Limited.{too_large, not_large, unsized}
use Rattle.replica.proofs.gossiping.answer_within.Goals as goal

pub returns-in-Ok : goal.returns-in-Ok
returns-in-Ok c =
    let e = c.in-Ok.ensures in
    let high : c.args.most < c.in-Ok.size = omega (arith, c.from.ensures, c.if-size-from.true) in
    record { replies = too_large c.args.segment.now c.args.summary.now c.args.most c.in-Ok.size e.size e.whole e.broken high }

pub returns-in-Ok-2 : goal.returns-in-Ok-2
returns-in-Ok-2 c =
    let low : c.in-Ok.size ≤ c.args.most = omega (arith, c.from.ensures, c.if-size-from.false) in
    record { replies = not_large c.args.segment.now c.args.summary.now c.args.most c.in-Ok.size c.answer.result c.in-Ok.ensures.size low c.answer.ensures.replies }

pub returns-in-Err : goal.returns-in-Err
returns-in-Err c =
    let e = c.in-Err.ensures in let s = c.args.segment.now in let summary = c.args.summary.now in
    record {
      replies = subst (RepliesWithin s summary c.args.most) (sym c.fault_reply.ensures) (unsized s summary c.args.most c.in-Err.fault e.sound e.refused e.broken);
    }
