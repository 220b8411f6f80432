use Rattle.std.proofs.Common.{inl, inr, refl}
use Rattle.framing.specs.Frames.{header}
use Rattle.volume_stream.proofs.machine.answer_event.Goals as goal

-- without room for the answer, the volume is closed after the step
pub returns-clause-answers : goal.returns-clause-answers
unfolding header
returns-clause-answers c =
    inr (inl (record {
      actions = c.in-Ok.actions.items;
      left = c.step.new.self;
      steps = c.in-Ok.ensures.steps;
      closed = c.close.ensures;
      fault = refl;
    }))
