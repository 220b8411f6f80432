-- A line asks what its first words ask: no request has as many as are looked at.
use Rattle.std.proofs.Common.{◌≡◌, ℕ, ◌<◌, List, [], ◌∷◌, length, None, Err, ap, arith, rules}
use Rattle.text.specs.Parts.{parts_at, most_parts, first_parts}
use Rattle.text.proofs.FirstParts.{few_are_all, longer_than_forms}
use Rattle.node_stream.specs.Reading.{open_form, read_form, fold_form, freeze_form, piece_form, stage_form, next_form, numbers_line, formed, words_line, request_of}
use Rattle.node_stream.specs.declared.faults.LineFault.TheVariants as fault

long_numbers : (words : List (List ℕ)) → 5 < length words → numbers_line words ≡ None
unfolding numbers_line
long_numbers words lt = longer_than_forms 4 (open_form ∷ read_form ∷ fold_form ∷ freeze_form ∷ piece_form ∷ stage_form ∷ next_form ∷ []) words (search rules) lt

long_line : (words : List (List ℕ)) → 5 < length words → words_line words ≡ Err fault.Form
unfolding words_line
long_line [] lt = absurd (omega arith)
long_line (a ∷ []) lt = absurd (omega arith)
long_line (a ∷ b ∷ []) lt = absurd (omega arith)
long_line (a ∷ b ∷ c ∷ []) lt = absurd (omega arith)
long_line (a ∷ b ∷ c ∷ d ∷ words) lt = ap formed (long_numbers (a ∷ b ∷ c ∷ d ∷ words) lt)

pub first_words : (line : List ℕ) → words_line (first_parts 32 line) ≡ request_of line
unfolding first_parts
first_words line = few_are_all words_line (Err fault.Form) most_parts (parts_at 32 line) (λ words le. long_line words (omega arith))
