-- What a line asks, by its words between single spaces.
use Rattle.std.specs.Prelude.{◌≡◌, ℕ, ◌+◌, ◌==◌, nat_lt, List, [], ◌∷◌, Option, Some, None, Result, Ok, Err, codes, bytes_eq, if◌then◌else◌}
use Rattle.hex.specs.Hex.{decode_of}
use Rattle.redo_core.specs.Shape.{max_number, max_readers}
use Rattle.redo_core.specs.declared.facts.Fact.{Fact}
use Rattle.messages.specs.Summaries.{SummaryData}
use Rattle.messages.specs.Deltas.{DeltaData}
use Rattle.messages.specs.Pieces.{PieceData}
use Rattle.redo_wire.specs.FactReading.{decoded_fact}
use Rattle.redo_wire.specs.SummaryReading.{decoded_summary}
use Rattle.redo_wire.specs.DeltaReading.{decoded_delta}
use Rattle.redo_wire.specs.PieceReading.{decoded_piece}
use Rattle.redo_wire.specs.declared.faults.WireFault.{WireFault}
use Rattle.replica.specs.declared.requests.Request.TheVariants as request
use Rattle.text.specs.Number.{decimal_value}
use Rattle.text.specs.Parts.{parts_at}
use Rattle.text.specs.HexDigits.{decoded}
use Rattle.text.specs.Fields.{Form, form, of_one, of_two, read_by}
use Rattle.node_stream.specs.Asking.{asked, shown}
use Rattle.node_stream.specs.declared.asked.Asked.{Asked}
use Rattle.node_stream.specs.declared.faults.LineFault.{LineFault}
use Rattle.node_stream.specs.declared.faults.LineFault.TheVariants as fault
use Rattle.node_stream.specs.declared.job.Form.{Form as Stream}
use Rattle.node_stream.specs.declared.job.Form.TheVariants as stream
use Rattle.node_stream.specs.declared.faults.LineError.{LineError}
use Rattle.node_stream.specs.declared.faults.LineError.TheVariants as errors

-- ---- steps that may fail
infixl 10 ◌>>=◌
abbrev pub ◌>>=◌ : {A B : Type 0} → Result A LineFault → (A → Result B LineFault) → Result B LineFault
(Ok x) >>= f = f x
(Err e) >>= f = Err e

-- what a reader returned, seen by view, is what is read here, unless memory ran out
abbrev pub Fails : {Y : Type 0} → LineError → Result Y LineFault → Type 0
Fails errors.Memory read = Unit {0}
Fails (errors.Fault f) read = read ≡ Err f

abbrev pub Gives : {X Y : Type 0} → (X → Y) → Result X LineError → Result Y LineFault → Type 0
Gives view (Ok x) read = read ≡ Ok (view x)
Gives view (Err e) read = Fails e read

-- ---- one word
-- the requests that are a word alone
unfoldable pub lone_word : List ℕ → Option Asked
lone_word word =
    if bytes_eq word (codes "front") then Some (asked request.Front)
    else if bytes_eq word (codes "gap") then Some (asked request.Gap)
    else if bytes_eq word (codes "state") then Some (asked request.State)
    else if bytes_eq word (codes "ask") then Some (asked request.Ask)
    else if bytes_eq word (codes "discard") then Some (asked request.Discard)
    else if bytes_eq word (codes "tidy") then Some (asked request.Tidy)
    else if bytes_eq word (codes "finish") then Some (asked request.Finish)
    else if bytes_eq word (codes "unite") then Some (asked request.Unite)
    else None

-- ---- a word and numbers
-- four numbers
abbrev pub of_four : {A : Type 0} → (ℕ → ℕ → ℕ → ℕ → Option A) → List ℕ → Option A
of_four make (a ∷ b ∷ c ∷ d ∷ []) = make a b c d
of_four make _ = None

-- at least one reader
abbrev pub opening : ℕ → Option Asked
opening readers = if readers == 0 then None else Some (asked (request.Open readers))

-- some bytes inside a page
abbrev pub read : ℕ → ℕ → ℕ → ℕ → Option Asked
read page point offset len =
    if len == 0 then None else if nat_lt 4096 (offset + len) then None else Some (shown (request.Read page point) offset len)

abbrev pub open_form : Form Asked
open_form = form (codes "open") (max_readers ∷ []) (of_one opening)

abbrev pub read_form : Form Asked
read_form = form (codes "read") (65535 ∷ max_number ∷ 4096 ∷ 4096 ∷ []) (of_four read)

abbrev pub fold_form : Form Asked
fold_form = form (codes "fold") (65535 ∷ []) (of_one (λ page. Some (asked (request.Fold page))))

abbrev pub freeze_form : Form Asked
freeze_form = form (codes "freeze") (max_number ∷ []) (of_one (λ name. Some (asked (request.Freeze name))))

abbrev pub piece_form : Form Asked
piece_form = form (codes "piece") (4294967295 ∷ []) (of_one (λ index. Some (asked (request.Piece index))))

abbrev pub stage_form : Form Asked
stage_form = form (codes "stage") (max_number ∷ 4294967295 ∷ []) (of_two (λ name total. Some (asked (request.Stage name total))))

abbrev pub next_form : Form Asked
next_form = form (codes "next") (65535 ∷ max_number ∷ [])
    (of_two (λ epoch number. Some (asked (request.Next (Some (record { epoch = epoch; number = number }))))))

-- the requests that are a word and numbers
unfoldable pub numbers_line : List (List ℕ) → Option Asked
numbers_line fields = read_by (open_form ∷ read_form ∷ fold_form ∷ freeze_form ∷ piece_form ∷ stage_form ∷ next_form ∷ []) fields

-- ---- a word and bytes
abbrev pub hexed : Option (List ℕ) → Result (List ℕ) LineFault
hexed (Some bytes) = Ok bytes
hexed None = Err fault.Hex

-- the bytes of a field: of hexadecimal digits of either case in a line, and as they are in a frame
abbrev pub bytes_by : Stream → List ℕ → Result (List ℕ) LineFault
bytes_by stream.Lines digits = hexed (decoded (decode_of digits))
bytes_by stream.Frames bytes = Ok bytes

-- the value that bytes encode
abbrev pub wired : {A : Type 0} → Result A WireFault → Result A LineFault
wired (Ok x) = Ok x
wired (Err f) = Err (fault.Wire f)

-- the values that fields encode
abbrev pub fact_by : Stream → List ℕ → Result Fact LineFault
fact_by s field = bytes_by s field >>= (λ bytes. wired (decoded_fact bytes))

abbrev pub summary_by : Stream → List ℕ → Result SummaryData LineFault
summary_by s field = bytes_by s field >>= (λ bytes. wired (decoded_summary bytes))

abbrev pub delta_by : Stream → List ℕ → Result DeltaData LineFault
delta_by s field = bytes_by s field >>= (λ bytes. wired (decoded_delta bytes))

abbrev pub piece_by : Stream → List ℕ → Result PieceData LineFault
piece_by s field = bytes_by s field >>= (λ bytes. wired (decoded_piece bytes))

abbrev pub asked_take : Stream → List ℕ → Result Asked LineFault
asked_take s field = fact_by s field >>= (λ f. Ok (asked (request.Take f)))

abbrev pub asked_answer : Stream → List ℕ → Result Asked LineFault
asked_answer s field = summary_by s field >>= (λ x. Ok (asked (request.Answer x)))

-- a summary to be answered within so many bytes
abbrev pub answer_within : Option ℕ → Result SummaryData LineFault → Result Asked LineFault
answer_within None read = Err fault.Form
answer_within (Some most) read = read >>= (λ x. Ok (asked (request.AnswerWithin x most)))

abbrev pub asked_within : Stream → List ℕ → List ℕ → Result Asked LineFault
asked_within s limit field = answer_within (decimal_value 4294967295 limit) (summary_by s field)

abbrev pub asked_add : Stream → List ℕ → Result Asked LineFault
asked_add s field = piece_by s field >>= (λ p. Ok (asked (request.Add p)))

abbrev pub asked_absorb : Stream → List ℕ → List ℕ → Result Asked LineFault
asked_absorb s shown answered = summary_by s shown >>= (λ x. delta_by s answered >>= (λ d. Ok (asked (request.Absorb x d))))

-- ---- lines
-- it has the form of a request, or not
abbrev pub formed : {A : Type 0} → Option A → Result A LineFault
formed (Some a) = Ok a
formed None = Err fault.Form

-- a word and one field: bytes, or a number
unfoldable pub field_line : List ℕ → List ℕ → Result Asked LineFault
field_line word field =
    if bytes_eq word (codes "take") then asked_take stream.Lines field
    else if bytes_eq word (codes "answer") then asked_answer stream.Lines field
    else if bytes_eq word (codes "add") then asked_add stream.Lines field
    else formed (numbers_line (word ∷ field ∷ []))

-- a word and two fields: bytes of a summary and of the delta that answers it, or a number; or numbers
unfoldable pub fields_line : List ℕ → List ℕ → List ℕ → Result Asked LineFault
fields_line word field next =
    if bytes_eq word (codes "absorb") then asked_absorb stream.Lines field next
    else if bytes_eq word (codes "answer") then asked_within stream.Lines next field
    else formed (numbers_line (word ∷ field ∷ next ∷ []))

-- what the words of a line ask
unfoldable pub words_line : List (List ℕ) → Result Asked LineFault
words_line (word ∷ []) = formed (lone_word word)
words_line (word ∷ field ∷ []) = field_line word field
words_line (word ∷ field ∷ next ∷ []) = fields_line word field next
words_line words = formed (numbers_line words)

-- what a line asks
abbrev pub request_of : List ℕ → Result Asked LineFault
request_of line = words_line (parts_at 32 line)
