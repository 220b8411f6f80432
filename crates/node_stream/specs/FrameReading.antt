-- What a frame asks.
use Rattle.std.specs.Prelude.{ℕ, ◌+◌, ◌==◌, nat_lt, List, length, take, drop, position, option_map, Option, Some, None, Result, Err, codes, bytes_eq, if◌then◌else◌}
use Rattle.text.specs.Number.{decimal_value}
use Rattle.node_stream.specs.Reading.{asked_take, asked_answer, asked_within, asked_add, asked_absorb, request_of}
use Rattle.node_stream.specs.declared.asked.Asked.{Asked}
use Rattle.node_stream.specs.declared.faults.LineFault.{LineFault}
use Rattle.node_stream.specs.declared.faults.LineFault.TheVariants as fault
use Rattle.node_stream.specs.declared.job.Form.TheVariants as stream

-- the bytes before the first space and after it
abbrev pub halves : List ℕ → Option (List ℕ × List ℕ)
halves text = option_map (λ at. (take at text, drop (at + 1) text)) (position (λ b. b == 32) text)

-- ---- a number, and bytes after it and a space
abbrev pub under_limit : Option ℕ → List ℕ → Option (ℕ × List ℕ)
under_limit None bytes = None
under_limit (Some number) bytes = Some (number, bytes)

-- a number of bytes, and the bytes of a summary
abbrev pub within_both : Option (List ℕ × List ℕ) → Result Asked LineFault
within_both None = Err fault.Form
within_both (Some (limit, bytes)) = asked_within stream.Frames limit bytes

abbrev pub within_frame : List ℕ → Result Asked LineFault
within_frame text = within_both (halves text)

-- so many bytes, and those after them
abbrev pub split_by : Option ℕ → List ℕ → Option (List ℕ × List ℕ)
split_by None bytes = None
split_by (Some count) bytes = if nat_lt (length bytes) count then None else Some (take count bytes, drop count bytes)

-- a number, a space, so many bytes, and the bytes after them
abbrev pub sized : Option (List ℕ × List ℕ) → Option (List ℕ × List ℕ)
sized None = None
sized (Some (digits, bytes)) = split_by (decimal_value 4294967295 digits) bytes

abbrev pub absorbed : List ℕ → Option (List ℕ × List ℕ)
absorbed text = sized (halves text)

-- a summary and the delta that answers it
abbrev pub absorb_both : Option (List ℕ × List ℕ) → Result Asked LineFault
absorb_both None = Err fault.Form
absorb_both (Some (shown, answered)) = asked_absorb stream.Frames shown answered

abbrev pub absorb_frame : List ℕ → Result Asked LineFault
absorb_frame text = absorb_both (absorbed text)

-- ---- frames
-- a word and the bytes after it and a space; after any other word no bytes follow, and the frame asks what its line would ask
unfoldable pub halves_frame : List ℕ → Option (List ℕ × List ℕ) → Result Asked LineFault
halves_frame frame None = request_of frame
halves_frame frame (Some (word, rest)) =
    if bytes_eq word (codes "take") then asked_take stream.Frames rest
    else if bytes_eq word (codes "answer") then asked_answer stream.Frames rest
    else if bytes_eq word (codes "within") then within_frame rest
    else if bytes_eq word (codes "add") then asked_add stream.Frames rest
    else if bytes_eq word (codes "absorb") then absorb_frame rest
    else request_of frame

-- what a frame asks
abbrev pub request_in : List ℕ → Result Asked LineFault
request_in frame = halves_frame frame (halves frame)

-- ---- many frames in one
-- the bytes after the word
unfoldable pub behind_many : Option (List ℕ × List ℕ) → Option (List ℕ)
behind_many None = None
behind_many (Some (word, rest)) = if bytes_eq word (codes "many") then Some rest else None

-- the bytes of the frames that a frame holds, if it is of that kind
abbrev pub many_in : List ℕ → Option (List ℕ)
many_in frame = behind_many (halves frame)
