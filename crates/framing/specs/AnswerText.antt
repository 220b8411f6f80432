-- The bytes of an answer.
use Rattle.std.specs.Prelude.{ℕ, List}
use Rattle.framing.specs.declared.lines.answer.Answer.{Answer}
use Rattle.framing.specs.declared.lines.answer.Answer.TheVariants.{Fixed, Short, Made}

abbrev pub text_of : Answer → List ℕ
text_of (Fixed text) = text.now
text_of (Short text) = text.items
text_of (Made text) = text.items
