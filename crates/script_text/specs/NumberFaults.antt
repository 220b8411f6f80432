-- Why a word is no number up to a limit.
use Rattle.std.specs.Prelude.{◌≡◌, ◌<◌, ℕ, true, false, List, [], length, slice_index}
use Rattle.std.specs.Str.{all_ascii_digits}
use Rattle.text.specs.Number.{value_from}
use Rattle.script_text.specs.declared.reasons.NumberFault.{NumberFault}
use Rattle.script_text.specs.declared.reasons.NumberFault.TheVariants.{Empty, NotDigits, LeadingZero, Above}

-- the word has this fault as a number up to the limit
abbrev pub IsNumberFault : ℕ → List ℕ → NumberFault → Type 0
IsNumberFault limit word Empty = word ≡ []
IsNumberFault limit word NotDigits = all_ascii_digits word ≡ false
IsNumberFault limit word LeadingZero = (slice_index word 0 ≡ 48) × (1 < length word)
IsNumberFault limit word (Above most) = (most ≡ limit) × (all_ascii_digits word ≡ true) × (limit < value_from 0 word)
