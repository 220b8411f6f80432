use Rattle.std.proofs.Common.{refl, inl, sym, subst}
use Rattle.messages.specs.Deltas.{DeltaData}
use Rattle.gossip_core.specs.Replying.{FillsSummary, AnswersSummary}
use Rattle.replica.proofs.Limited.{still_whole, lost_whole}
use Rattle.replica.proofs.gossiping.boxed_answer.Goals as goal

pub returns-in-Ok-new : goal.returns-in-Ok-new
returns-in-Ok-new c =
    let s = c.args.segment.now in let summary = c.args.summary.now in let e = c.in-Ok.ensures in
    record {
      replies = record {
        fills = subst (λ (d : DeltaData). FillsSummary s summary d) (sym c.in-Ok-new.ensures) e.fills;
        sound = tt;
        answers = subst (λ (d : DeltaData). AnswersSummary s summary d) (sym c.in-Ok-new.ensures) e.answers;
        refused = tt;
        whole = e.whole;
        broken = still_whole DeltaData DeltaData s summary c.in-Ok.delta c.in-Ok-new.boxed e.broken;
      };
    }

pub returns-in-Err-new : goal.returns-in-Err-new
returns-in-Err-new c =
    let s = c.args.segment.now in let summary = c.args.summary.now in
    record {
      replies = record {
        fills = tt;
        sound = λ _. refl;
        answers = tt;
        refused = inl refl;
        whole = tt;
        broken = lost_whole DeltaData DeltaData s summary c.in-Ok.delta c.in-Ok.ensures.broken;
      };
    }

pub returns-in-Err : goal.returns-in-Err
returns-in-Err c =
    let e = c.in-Err.ensures in
    record { replies = record { fills = tt; sound = e.sound; answers = tt; refused = e.refused; whole = tt; broken = e.broken } }
