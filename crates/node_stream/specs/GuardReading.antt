-- What a line or a frame asks of a guard.
use Rattle.std.specs.Prelude.{ℕ, List, [], ◌∷◌, Option, Some, None, Result, Ok, Err, codes, bytes_eq, if◌then◌else◌}
use Rattle.redo_core.specs.Data.{cut_of}
use Rattle.redo_core.specs.Shape.{max_number, cut_fault}
use Rattle.redo_core.specs.declared.shapes.ShapeFault.{ShapeFault}
use Rattle.guard.specs.declared.requests.AcceptedCut.{AcceptedCut}
use Rattle.guard.specs.declared.requests.Request.TheVariants as request
use Rattle.text.specs.Number.{decimal_value}
use Rattle.text.specs.Parts.{parts_at}
use Rattle.text.specs.Fields.{Form, form, of_one, of_five, made_by}
use Rattle.node_stream.specs.Asking.{guard_asked, plainly, under}
use Rattle.node_stream.specs.Reading.{◌>>=◌, of_four, formed, request_of}
use Rattle.node_stream.specs.FrameReading.{halves, under_limit, request_in}
use Rattle.node_stream.specs.declared.asked.Asked.{Asked}
use Rattle.node_stream.specs.declared.asked.GuardAsked.{GuardAsked}
use Rattle.node_stream.specs.declared.faults.LineFault.{LineFault}
use Rattle.node_stream.specs.declared.faults.LineFault.TheVariants as fault
use Rattle.node_stream.specs.declared.job.Form.{Form as Stream}
use Rattle.node_stream.specs.declared.job.Form.TheVariants as stream

-- the greatest generation, and the greatest birth
abbrev pub max_wide : ℕ
max_wide = 18446744073709551615

-- ---- a word and numbers
-- eight numbers
abbrev pub of_eight : {A : Type 0} → (ℕ → ℕ → ℕ → ℕ → ℕ → ℕ → ℕ → ℕ → Option A) → List ℕ → Option A
of_eight make (a ∷ b ∷ c ∷ d ∷ e ∷ f ∷ g ∷ h ∷ []) = make a b c d e f g h
of_eight make _ = None

-- the value, if there is no fault
abbrev pub faultless : {A : Type 0} → Option ShapeFault → A → Option A
faultless None x = Some x
faultless (Some f) x = None

abbrev pub proposing : ℕ → ℕ → ℕ → ℕ → ℕ → Option GuardAsked
proposing generation birth epoch lo hi =
    faultless (cut_fault (cut_of epoch lo hi)) (guard_asked (request.Propose generation birth (cut_of epoch lo hi)))

abbrev pub admitting : ℕ → ℕ → ℕ → ℕ → Option AcceptedCut → GuardAsked
admitting generation birth epoch complete accepted =
    guard_asked (request.Admit (record { generation = generation; birth = birth; epoch = epoch; complete = complete; accepted = accepted }))

-- with the truncation that the node is to have accepted, and its generation
abbrev pub admitting_with : ℕ → ℕ → ℕ → ℕ → ℕ → ℕ → ℕ → ℕ → Option GuardAsked
admitting_with generation birth epoch complete by next lo hi =
    faultless (cut_fault (cut_of next lo hi))
    (admitting generation birth epoch complete (Some (record { generation = by; cut = cut_of next lo hi })))

abbrev pub fence_form : Form GuardAsked
fence_form = form (codes "fence") (max_wide ∷ []) (of_one (λ generation. Some (guard_asked (request.Fence generation))))

abbrev pub propose_form : Form GuardAsked
propose_form = form (codes "propose") (max_wide ∷ max_wide ∷ 65535 ∷ max_number ∷ max_number ∷ []) (of_five proposing)

abbrev pub admit_form : Form GuardAsked
admit_form = form (codes "admit") (max_wide ∷ max_wide ∷ 65535 ∷ max_number ∷ [])
    (of_four (λ generation birth epoch complete. Some (admitting generation birth epoch complete None)))

abbrev pub admit_with_form : Form GuardAsked
admit_with_form = form (codes "admit")
    (max_wide ∷ max_wide ∷ 65535 ∷ max_number ∷ max_wide ∷ 65535 ∷ max_number ∷ max_number ∷ []) (of_eight admitting_with)

-- the first that is there
abbrev pub either_of : {A : Type 0} → Option A → Option A → Option A
either_of (Some x) other = Some x
either_of None other = other

-- an admission has four numbers or eight
unfoldable pub admission_of : List (List ℕ) → Option GuardAsked
admission_of words = either_of (made_by admit_form words) (made_by admit_with_form words)

-- ---- requests of a replica
-- what a line or a frame asks of a replica
abbrev pub own_asked : Stream → List ℕ → Result Asked LineFault
own_asked stream.Lines text = request_of text
own_asked stream.Frames text = request_in text

unfoldable pub plain_text : Stream → List ℕ → Result GuardAsked LineFault
plain_text s text = own_asked s text >>= (λ a. Ok (plainly a))

-- a generation or a birth, and what is behind it and a space
abbrev pub wide_before : Option (List ℕ × List ℕ) → Option (ℕ × List ℕ)
wide_before None = None
wide_before (Some (digits, behind)) = under_limit (decimal_value max_wide digits) behind

abbrev pub wide_front : List ℕ → Option (ℕ × List ℕ)
wide_front text = wide_before (halves text)

-- a request for the engine of a generation, in a birth of the node
abbrev pub under_birth : Stream → ℕ → Option (ℕ × List ℕ) → Result GuardAsked LineFault
under_birth s generation None = Err fault.Form
under_birth s generation (Some (birth, text)) = own_asked s text >>= (λ a. Ok (under generation birth a))

abbrev pub under_generation : Stream → Option (ℕ × List ℕ) → Result GuardAsked LineFault
under_generation s None = Err fault.Form
under_generation s (Some (generation, text)) = under_birth s generation (wide_front text)

unfoldable pub under_text : Stream → List ℕ → Result GuardAsked LineFault
under_text s text = under_generation s (wide_front text)

-- ---- lines and frames
-- a word alone
unfoldable pub lone_text : Stream → List ℕ → Result GuardAsked LineFault
lone_text s text = if bytes_eq text (codes "status") then Ok (guard_asked request.Status) else plain_text s text

-- a word, and what is behind it and a space; after any other word it is a request of a replica
unfoldable pub guard_words : Stream → List ℕ → Option (List ℕ × List ℕ) → Result GuardAsked LineFault
guard_words s text None = lone_text s text
guard_words s text (Some (word, rest)) =
    if bytes_eq word (codes "as") then under_text s rest
    else if bytes_eq word (codes "fence") then formed (made_by fence_form (parts_at 32 rest))
    else if bytes_eq word (codes "propose") then formed (made_by propose_form (parts_at 32 rest))
    else if bytes_eq word (codes "admit") then formed (admission_of (parts_at 32 rest))
    else plain_text s text

-- what a line or a frame asks of a guard
abbrev pub guard_request : Stream → List ℕ → Result GuardAsked LineFault
guard_request s text = guard_words s text (halves text)
