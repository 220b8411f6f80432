-- What a guard is asked by numbers is asked by their first fields: no request has as many as are looked at.
use Rattle.std.proofs.Common.{◌≡◌, ℕ, ◌<◌, List, length, Option, None, ap, ◌∙◌, arith}
use Rattle.text.specs.Fields.{Form, made_by}
use Rattle.text.specs.Parts.{◌>>=◌, parts_at, most_parts, first_parts}
use Rattle.text.proofs.FirstParts.{few_are_all}
use Rattle.text.proofs.Forms.{numbers_apart}
use Rattle.node_stream.specs.GuardReading.{fence_form, propose_form, admit_form, admit_with_form, either_of, admission_of}
use Rattle.node_stream.specs.declared.asked.GuardAsked.{GuardAsked}

too_many : (f : Form GuardAsked) (words : List (List ℕ)) → length f.limits < length words → made_by f words ≡ None
too_many f words more = ap (λ (o : Option (List ℕ)). o >>= f.made) (numbers_apart f.limits words (λ e. omega (arith, e, more)))

form_fields : (f : Form GuardAsked) (text : List ℕ) → length f.limits < most_parts → made_by f (first_parts 32 text) ≡ made_by f (parts_at 32 text)
unfolding first_parts
form_fields f text short = few_are_all (made_by f) None most_parts (parts_at 32 text) (λ words le. too_many f words (omega (arith, short, le)))

pub fence_fields : (text : List ℕ) → made_by fence_form (first_parts 32 text) ≡ made_by fence_form (parts_at 32 text)
fence_fields text = form_fields fence_form text (omega arith)

pub propose_fields : (text : List ℕ) → made_by propose_form (first_parts 32 text) ≡ made_by propose_form (parts_at 32 text)
propose_fields text = form_fields propose_form text (omega arith)

pub admission_fields : (text : List ℕ) → admission_of (first_parts 32 text) ≡ admission_of (parts_at 32 text)
unfolding admission_of
admission_fields text =
    ap (λ (o : Option GuardAsked). either_of o (made_by admit_with_form (first_parts 32 text))) (form_fields admit_form text (omega arith))
    ∙ ap (λ (o : Option GuardAsked). either_of (made_by admit_form (parts_at 32 text)) o) (form_fields admit_with_form text (omega arith))
