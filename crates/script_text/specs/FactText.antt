-- The line of a fact in one encoding: digits in lower case, numbers in decimal.
use Rattle.std.specs.Prelude.{◌≡◌, ℕ, ◌≤◌, ◌==◌, Bool, true, false, List, [], ◌∷◌, ◌++◌, map, Ok, codes, if◌then◌else◌}
use Rattle.std.specs.List.{join_with_byte}
use Rattle.std.specs.Fmt.{decimal}
use Rattle.hex.specs.Hex.{encode_lower, decode_of}
use Rattle.redo_core.specs.Data.{RecordData, CutData, AdvanceData}
use Rattle.redo_core.specs.declared.patches.Patch.{Patch}
use Rattle.redo_core.specs.declared.patches.Patch.TheVariants.{Bytes, Fill}
use Rattle.redo_core.specs.declared.facts.Fact.{Fact}
use Rattle.redo_core.specs.declared.facts.Fact.TheVariants.{Record, Cut, Advance}

-- bytes behind their offset, as 0:6161, or a byte behind its offset and length, as 0*16:ff
abbrev pub patch_text : Patch → List ℕ
patch_text (Bytes w) = decimal w.offset ++ (codes ":" ++ encode_lower w.bytes)
patch_text (Fill offset len byte) = decimal offset ++ (codes "*" ++ (decimal len ++ (codes ":" ++ encode_lower (byte ∷ []))))

-- behind the word init, where the page begins anew
abbrev pub behind_init : Bool → List (List ℕ) → List (List ℕ)
behind_init true texts = codes "init" ∷ texts
behind_init false texts = texts

-- the texts between commas, or a dash for none
abbrev pub between_commas : List (List ℕ) → List ℕ
between_commas [] = codes "-"
between_commas (text ∷ texts) = join_with_byte 44 (text ∷ texts)

abbrev pub contents_text : Bool → List Patch → List ℕ
contents_text init patches = between_commas (behind_init init (map patch_text patches))

abbrev pub record_text : RecordData → List ℕ
record_text r = codes "rec " ++ (decimal r.epoch ++ (codes " " ++ (decimal r.number ++ (codes " " ++ (decimal r.back
    ++ (codes " " ++ (decimal r.page ++ (codes " " ++ (decimal r.block_back ++ (codes " " ++ contents_text r.init r.patches))))))))))

abbrev pub cut_text : CutData → List ℕ
cut_text c = codes "cut " ++ (decimal c.epoch ++ (codes " " ++ (decimal c.lo ++ (codes " " ++ decimal c.hi))))

-- reader 1 is not named
abbrev pub advance_text : AdvanceData → List ℕ
advance_text a =
    if a.reader == 1 then codes "min " ++ (decimal a.epoch ++ (codes " " ++ decimal a.point))
    else codes "min " ++ (decimal a.epoch ++ (codes " " ++ (decimal a.point ++ (codes " " ++ decimal a.reader))))

-- the fact's line, without its line end
abbrev pub fact_text : Fact → List ℕ
fact_text (Record r) = record_text r
fact_text (Cut c) = cut_text c
fact_text (Advance a) = advance_text a

-- a patch whose text is read back: numbers in range, and digits that stand for its bytes
abbrev pub IsReadBack : Patch → Type 0
IsReadBack (Bytes w) = (w.offset ≤ 65535) × (decode_of (encode_lower w.bytes) ≡ Ok w.bytes)
IsReadBack (Fill offset len byte) = (offset ≤ 65535) × (decode_of (encode_lower (byte ∷ [])) ≡ Ok (byte ∷ []))
