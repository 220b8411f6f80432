use Rattle.std.proofs.Common.{Result, sym, subst}
use Rattle.framing.specs.AnswerText.{text_of}
use Rattle.node_stream.specs.Answering.{AnswersAsked, protocol}
use Rattle.node_stream.specs.declared.asked.GuardAsked.{GuardAsked}
use Rattle.node_stream.specs.declared.faults.LineFault.{LineFault}
use Rattle.node_stream.proofs.Together.{fault_answers}
use Rattle.node_stream.proofs.answering.answer_one.Goals as goal

pub returns-in-Ok-clause-answers : goal.returns-in-Ok-clause-answers
returns-in-Ok-clause-answers c = subst
    (λ (a : Result GuardAsked LineFault). AnswersAsked (protocol c.args.form) a c.args.guard.now (text_of c.answer_request.result) c.answer_request.new.guard)
    (sym c.in-Ok.ensures.asks) c.answer_request.ensures.answers

pub returns-in-Err-clause-answers : goal.returns-in-Err-clause-answers
returns-in-Err-clause-answers c = fault_answers (protocol c.args.form) c.args.guard.now c.args.text.now (text_of c.in-Err.answer) c.in-Err.ensures.fault
