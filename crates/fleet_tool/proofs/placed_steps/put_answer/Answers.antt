use Rattle.std.proofs.Common.{string_bytes}
use Rattle.fleet_core.specs.Replies.{HasCome}
use Rattle.fleet_tool.specs.Lines.{line_of}
use Rattle.fleet_tool.specs.ScriptSteps.{AnswersStep}
use Rattle.fleet_tool.proofs.Steps.{answers_first, pushed}
use Rattle.fleet_tool.proofs.placed_steps.put_answer.Goals as goal

pub returns : goal.returns
returns c =
    let reply = c.carry_out-reply.result in
    pushed c.put_line.result (HasCome reply) (string_bytes c.args.text.now) (string_bytes c.put_line.new.text) (line_of c.args.step reply)
    (λ x. AnswersStep c.args.fleet.now c.args.facts.now c.args.step x c.carry_out-reply.new.fleet) c.put_line.ensures.text c.put_line.ensures.came
    (answers_first c.args.fleet.now c.carry_out-reply.new.fleet c.args.facts.now c.args.step c.in_ok-asked.asked reply c.in_ok-asked.ensures c.carry_out-reply.ensures)
