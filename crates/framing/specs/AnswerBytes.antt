-- The bytes of an answer.
use Rattle.std.specs.Prelude.{ℕ, List}
use Rattle.framing.specs.declared.frames.answer.FrameAnswer.{FrameAnswer}
use Rattle.framing.specs.declared.frames.answer.FrameAnswer.TheVariants.{Fixed, Short, Made}

abbrev pub bytes_of : FrameAnswer → List ℕ
bytes_of (Fixed bytes) = bytes.now
bytes_of (Short bytes) = bytes.items
bytes_of (Made bytes) = bytes.items
