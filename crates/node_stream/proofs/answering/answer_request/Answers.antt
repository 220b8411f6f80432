use Rattle.std.proofs.Common.{inl, inr, arith}
use Rattle.node_stream.proofs.Unchanged.{reply_unchanged, sure_enough, some_sure}
use Rattle.node_stream.proofs.answering.answer_request.Goals as goal

pub returns-in-Ok-clause-answers : goal.returns-in-Ok-clause-answers
returns-in-Ok-clause-answers c = inr (record {
  told = c.step-reply.result;
  replies = c.step-reply.ensures.replies;
  refused = c.step-reply.ensures.refused;
  is = c.in-Ok.ensures.text;
})

pub returns-in-Ok-clause-long : goal.returns-in-Ok-clause-long
returns-in-Ok-clause-long c = λ framed lt.
    let few = sure_enough c.args.guard.now c.args.asked.request c.step-reply.result c.step-reply.new.self c.step-reply.ensures.replies in
    record {
      told = c.step-reply.result;
      replies = c.step-reply.ensures.replies;
      is = c.in-Ok.ensures.text;
      unchanged = reply_unchanged c.args.guard.now c.args.asked.request c.step-reply.result c.step-reply.new.self c.step-reply.ensures.replies
          c.step-reply.ensures.refused (c.in-Ok.ensures.long framed (omega (arith, lt, few)));
    }

pub returns-clause-answers : goal.returns-clause-answers
returns-clause-answers c = inl (record {
  is = c.memory.ensures.text;
  did = inr (
    c.step-reply.result,
    c.step-reply.ensures.replies,
    reply_unchanged c.args.guard.now c.args.asked.request c.step-reply.result c.step-reply.new.self c.step-reply.ensures.replies
        c.step-reply.ensures.refused c.in-Err.ensures.memory,
  );
})

pub returns-clause-long : goal.returns-clause-long
returns-clause-long c = λ framed lt. absurd (omega (arith, lt, c.memory.ensures.few, some_sure c.args.asked.request))
