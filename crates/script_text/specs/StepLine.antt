-- The step of a line, by the line's fields, behind a number of facts. A take names its fact by the place among them, from 1.
use Rattle.std.specs.Prelude.{ℕ, ◌+◌, ◌<◌, ◌≤◌, ◌==◌, nat_lt, List, [], ◌∷◌, Option, Some, None, codes, if◌then◌else◌}
use Rattle.redo_core.specs.Shape.{max_number}
use Rattle.script_steps.specs.declared.steps.Step.{Step}
use Rattle.script_steps.specs.declared.steps.Step.TheVariants.{Take, Fold, Discard, Front, Read, Join, Same, Covers, Wipe, Ask, Answer, Absorb}
use Rattle.script_steps.specs.Naming.{NamedIs}
use Rattle.script_steps.specs.Shown.{ShowsInside}
use Rattle.text.specs.Parts.{parts_at}
use Rattle.text.specs.Fields.{Form, form, of_one, of_two, of_five, read_by}

-- places count from 1
abbrev pub take : ℕ → ℕ → Option (Step ℕ)
take node place = if place == 0 then None else Some (Take node place)

-- some bytes inside a page
abbrev pub read : ℕ → ℕ → ℕ → ℕ → ℕ → Option (Step ℕ)
read node page point offset len = if len == 0 then None else if nat_lt 4096 (offset + len) then None else Some (Read node page point offset len)

-- the forms of step lines; nodes and pages are numbers of 16 bits, messages of 32
abbrev pub take_form : ℕ → Form (Step ℕ)
take_form facts = form (codes "take") (65535 ∷ facts ∷ []) (of_two take)

abbrev pub fold_form : Form (Step ℕ)
fold_form = form (codes "fold") (65535 ∷ 65535 ∷ []) (of_two (λ node page. Some (Fold node page)))

abbrev pub discard_form : Form (Step ℕ)
discard_form = form (codes "discard") (65535 ∷ []) (of_one (λ node. Some (Discard node)))

abbrev pub front_form : Form (Step ℕ)
front_form = form (codes "front") (65535 ∷ []) (of_one (λ node. Some (Front node)))

abbrev pub read_form : Form (Step ℕ)
read_form = form (codes "read") (65535 ∷ 65535 ∷ max_number ∷ 4096 ∷ 4096 ∷ []) (of_five read)

abbrev pub join_form : Form (Step ℕ)
join_form = form (codes "join") (65535 ∷ 65535 ∷ []) (of_two (λ node from. Some (Join node from)))

abbrev pub same_form : Form (Step ℕ)
same_form = form (codes "same") (65535 ∷ 65535 ∷ []) (of_two (λ node other. Some (Same node other)))

abbrev pub covers_form : Form (Step ℕ)
covers_form = form (codes "covers") (65535 ∷ 65535 ∷ []) (of_two (λ node other. Some (Covers node other)))

abbrev pub wipe_form : Form (Step ℕ)
wipe_form = form (codes "wipe") (65535 ∷ []) (of_one (λ node. Some (Wipe node)))

abbrev pub ask_form : Form (Step ℕ)
ask_form = form (codes "ask") (65535 ∷ []) (of_one (λ node. Some (Ask node)))

abbrev pub answer_form : Form (Step ℕ)
answer_form = form (codes "answer") (65535 ∷ 4294967295 ∷ []) (of_two (λ node message. Some (Answer node message)))

abbrev pub absorb_form : Form (Step ℕ)
absorb_form = form (codes "absorb") (65535 ∷ 4294967295 ∷ []) (of_two (λ node message. Some (Absorb node message)))

-- the forms of messages
abbrev pub message_forms : List (Form (Step ℕ))
message_forms = ask_form ∷ answer_form ∷ absorb_form ∷ []

abbrev pub step_forms : ℕ → List (Form (Step ℕ))
step_forms facts = take_form facts ∷ fold_form ∷ discard_form ∷ front_form ∷ read_form ∷ join_form ∷ same_form ∷ covers_form ∷ wipe_form ∷ message_forms

-- the step of a line's fields
unfoldable pub step_line : ℕ → List (List ℕ) → Option (Step ℕ)
step_line facts fields = read_by (step_forms facts) fields

-- the step of a line
abbrev pub step_of : ℕ → List ℕ → Option (Step ℕ)
step_of facts line = step_line facts (parts_at 32 line)

-- the step names one of that many facts, and shows bytes inside a page
abbrev pub IsInRange : ℕ → Step ℕ → Type 0
IsInRange facts step = NamedIs (λ place. (0 < place) × (place ≤ facts)) step × ShowsInside step
