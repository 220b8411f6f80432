use Rattle.std.proofs.Common.{◌≡◌, ◌++◌, ℕ, List, subst}
use Rattle.framing.specs.AnswerText.{text_of}
use Rattle.framing.specs.Frames.{framed}
use Rattle.node_stream.specs.Gathering.{gathered_bytes}
use Rattle.node_stream.proofs.Together.{not_read}
use Rattle.node_stream.proofs.many.put_answer.Goals as goal

pub returns-in-Ok-clause-answers : goal.returns-in-Ok-clause-answers
returns-in-Ok-clause-answers c = c.put_reply.ensures.answers c.args.frame.now c.in-Ok.ensures.asks

pub returns-in-Err-clause-answers : goal.returns-in-Err-clause-answers
returns-in-Err-clause-answers c = not_read c.args.guard.now c.args.frame.now (text_of c.in-Err.answer) c.args.answers.now c.put_short.new.self c.args.others
    c.in-Err.ensures.fault c.in-Err.ensures.few c.requires
    (subst (λ (text : List ℕ). gathered_bytes c.put_short.new.self ≡ gathered_bytes c.args.answers.now ++ framed text) c.as_bytes.ensures c.put_short.ensures.bytes)
