use Rattle.std.proofs.Common.{◌≡◌, ◌++◌, ◌≤◌, ℕ, List, length, refl, subst, arith}
use Rattle.std.proofs.lemmas.Grind.{common_steps}
use Rattle.framing.specs.AnswerText.{text_of}
use Rattle.framing.specs.Frames.{IsShort, framed}
use Rattle.framing.specs.Inside.{FitsFrame, bytes_with}
use Rattle.node_stream.specs.Answering.{AnswersOneOf, by_frames}
use Rattle.node_stream.specs.Gathering.{Gathers, gathered_bytes, gathered_room}
use Rattle.node_stream.specs.GuardTelling.{sure_for}
use Rattle.node_stream.proofs.Together.{said}
use Rattle.node_stream.proofs.many.put_reply.Goals as goal

pub returns-else-not-make_room-clause-answers : goal.returns-else-not-make_room-clause-answers
returns-else-not-make_room-clause-answers c =
    let fits : FitsFrame (length (gathered_bytes c.make_room.new.self)) (sure_for c.args.asked.request) c.args.others = grind (arith, common_steps) in
    let free : bytes_with (length (gathered_bytes c.make_room.new.self)) (sure_for c.args.asked.request) c.args.others ≤ gathered_room c.make_room.new.self =
    grind (arith, common_steps) in
    let put : Gathers c.make_room.new.self (text_of c.answer_request-answer.result) c.args.others c.put.new.self =
    subst (λ (text : List ℕ). Gathers c.make_room.new.self text c.args.others c.put.new.self) c.as_bytes-else-not-make_room.ensures c.put.ensures.put in
    λ frame asks. subst
    (λ (begun : List ℕ). (told : List ℕ) × AnswersOneOf by_frames (length begun) c.args.others c.args.guard.now frame told c.answer_request-answer.new.guard
    × (gathered_bytes c.put.new.self ≡ begun ++ framed told) × IsShort told)
    c.make_room.ensures.bytes
    (said c.args.guard.now frame (text_of c.answer_request-answer.result) c.args.asked c.answer_request-answer.new.guard c.make_room.new.self
    c.put.new.self c.args.others asks c.answer_request-answer.ensures.answers (c.answer_request-answer.ensures.long refl) (c.answer_request-answer.ensures.short refl)
    c.make_room.ensures.kept fits free put)
