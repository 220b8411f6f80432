-- The description of a capture: one line for each line of hexadecimal digits.
use Rattle.std.specs.Prelude.{ℕ, List, [], ◌∷◌, ◌++◌, length, ◌==◌, if◌then◌else◌, Option, Some, None, Result, Ok, Err, codes, String, string_bytes}
use Rattle.std.specs.Global.{Global}
use Rattle.std.specs.Fmt.{decimal}
use Rattle.hex.specs.Hex.{decode_of}
use Rattle.redo_wire.specs.declared.faults.WireFault.{WireFault}
use Rattle.redo_wire.specs.Faults.{fault_number}
use Rattle.messages.specs.Summaries.{SummaryData}
use Rattle.messages.specs.Deltas.{DeltaData}
use Rattle.messages.specs.Books.{book_min}
use Rattle.messages.specs.declared.pieces.PieceContent.{PieceContent}
use Rattle.messages.specs.declared.pieces.PieceContent.TheVariants.{Head, Page, Records}
use Rattle.messages.specs.Pieces.{PieceData}
use Rattle.redo_wire.specs.Values.{decoded_value}
use Rattle.redo_wire.specs.declared.values.WireValue.{WireValue}
use Rattle.redo_wire.specs.declared.values.WireValue.TheVariants.{Fact, Summary, Delta, Piece}
use Rattle.text.specs.HexDigits.{decoded}
use Rattle.text.specs.Parts.{parts_at}
use Rattle.script_text.specs.FactText.{fact_text}

-- ---- one value

-- the counts of a summary's lists, and its points
abbrev pub summary_text : SummaryData → List ℕ
summary_text s = codes "summary cuts " ++ (decimal (length s.book.cuts)
    ++ (codes " min " ++ (decimal (book_min s.book) ++ (codes " waits " ++ (decimal (length s.book.waits)
    ++ (codes " anchor " ++ (decimal s.anchor ++ (codes " keys " ++ decimal (length s.keys)))))))))

-- the counts of a delta's lists, and its points
abbrev pub delta_text : DeltaData → List ℕ
delta_text d = codes "delta cuts " ++ (decimal (length d.book.cuts)
    ++ (codes " min " ++ (decimal (book_min d.book) ++ (codes " waits " ++ (decimal (length d.book.waits)
    ++ (codes " base " ++ (decimal d.base ++ (codes " pages " ++ (decimal (length d.pages) ++ (codes " records " ++ decimal (length d.records)))))))))))

-- what a piece contains: the head, the number of its page, or how many records
abbrev pub content_text : PieceContent → List ℕ
content_text (Head book anchor) = codes "head"
content_text (Page p) = codes "page " ++ decimal p.page
content_text (Records rs) = codes "records " ++ decimal (length rs)

-- which piece of how many
abbrev pub piece_text : PieceData → List ℕ
piece_text p = codes "piece " ++ (decimal p.index ++ (codes " of " ++ (decimal p.total ++ (codes " " ++ content_text p.content))))

-- the description of a value
abbrev pub told : WireValue → List ℕ
told (Fact f) = fact_text f
told (Summary s) = summary_text s
told (Delta d) = delta_text d
told (Piece p) = piece_text p

-- the value that was read, or the number of the first fault
abbrev pub value_text : Result WireValue WireFault → List ℕ
value_text (Ok value) = told value
value_text (Err fault) = codes "wire " ++ decimal (fault_number fault)

-- ---- lines

-- the description of the bytes of a line, or of digits that encode none
abbrev pub bytes_text : Option (List ℕ) → List ℕ
bytes_text (Some bytes) = value_text (decoded_value bytes)
bytes_text None = codes "bad hex"

-- the description of a line of digits, with its LF
abbrev pub line_text : List ℕ → List ℕ
line_text digits = bytes_text (decoded (decode_of digits)) ++ codes "\n"

-- the parts between the LFs, one line each; the last part is a line where it is not empty
abbrev pub parts_text : List (List ℕ) → List ℕ
parts_text [] = []
parts_text (last ∷ []) = if length last == 0 then [] else line_text last
parts_text (line ∷ next ∷ rest) = line_text line ++ parts_text (next ∷ rest)

-- the description of a text
abbrev pub inspected : List ℕ → List ℕ
inspected text = parts_text (parts_at 10 text)

-- texts one after another
abbrev pub texts_bytes : List (String Global) → List ℕ
texts_bytes [] = []
texts_bytes (text ∷ texts) = string_bytes text ++ texts_bytes texts
