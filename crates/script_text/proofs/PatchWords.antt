-- Patches, and their faults.
use Rattle.std.proofs.Common.{◌≡◌, ◌≢◌, ℕ, ◌<◌, inl, inr, Bool, ◌&&◌, List, [], ◌∷◌, length, Option, Some, None, refl, sym, ap, ◌∙◌, arith, rules}
use Rattle.std.specs.Prelude.{IsSome, is_some, MatchBool}
use Rattle.hex.specs.Hex.{decode_of}
use Rattle.text.specs.Parts.{◌>>=◌, parts_at}
use Rattle.text.specs.Number.{decimal_value}
use Rattle.text.specs.Fields.{numbers_of}
use Rattle.text.specs.HexDigits.{decoded}
use Rattle.script_text.specs.FactLine.{patch_at, patch_from, patch_of}
use Rattle.script_text.proofs.RecordContents.{read_whole}
use Rattle.text.proofs.Split.{some_parts, parts_joined}
use Rattle.script_text.proofs.Results.{found}
use Rattle.script_text.specs.declared.reasons.PatchFault.{PatchFault}
use Rattle.script_text.specs.declared.reasons.PatchFault.TheVariants.{Colon, Place, NoBytes, Digits, FillBytes}
use Rattle.script_text.specs.PatchFaults.{offset_limits, range_limits, IsPatchPlace, IsNoPatchPlace, RoundColon, IsWideFill, IsPatchFault}

-- ---- a place

no_bytes_at : (parts : List (List ℕ)) → patch_at parts [] ≡ None
no_bytes_at parts = search rules

wide_at : (parts : List (List ℕ)) (bytes : List ℕ) → length parts ≡ 2 → length bytes ≢ 1 → patch_at parts bytes ≡ None
wide_at parts bytes two many = search rules

-- ---- a patch

unplaced : (parts : List (List ℕ)) (o : Option (List ℕ)) → numbers_of offset_limits parts ≡ None → numbers_of range_limits parts ≡ None → (o >>= patch_at parts) ≡ None
unplaced parts o no_offset no_range = search rules

not_two : (parts : List (List ℕ)) → length parts ≢ 2 → patch_from parts ≡ None
unfolding patch_from
not_two parts other = search rules

-- round one colon stand a place and digits
round_colon : (text place digits : List ℕ) → parts_at 58 text ≡ place ∷ digits ∷ [] → patch_of text ≡ (decoded (decode_of digits) >>= patch_at (parts_at 42 place))
unfolding patch_from
round_colon text place digits e = rw e refl

pub patch_read : (text place digits bytes : List ℕ) → parts_at 58 text ≡ place ∷ digits ∷ [] → decoded (decode_of digits) ≡ Some bytes
    → patch_of text ≡ patch_at (parts_at 42 place) bytes
patch_read text place digits bytes parts stand = round_colon text place digits parts ∙ rw stand refl

-- a word with a fault is no patch
pub faulty_word : (text : List ℕ) (fault : PatchFault) → IsPatchFault text fault → patch_of text ≡ None
faulty_word text Colon h = not_two (parts_at 58 text) h
faulty_word text Place h = round_colon text h.place h.digits h.parts
    ∙ unplaced (parts_at 42 h.place) (decoded (decode_of h.digits)) h.holds.0 h.holds.1
faulty_word text NoBytes h = patch_read text h.place h.digits [] h.parts h.holds ∙ no_bytes_at (parts_at 42 h.place)
faulty_word text Digits h = round_colon text h.place h.digits h.parts ∙ rw h.holds refl
faulty_word text FillBytes h = patch_read text h.place h.digits h.holds.bytes h.parts h.holds.stand
    ∙ wide_at (parts_at 42 h.place) h.holds.bytes h.holds.range h.holds.many

-- ---- what is found of a word

none_more : (limit : ℕ) (o : Option ℕ) (word : List ℕ) (words : List (List ℕ)) → (o >>= λ n. numbers_of [] (word ∷ words) >>= λ ns. Some (n ∷ ns)) ≡ None
none_more limit o word words = search rules

-- what stands behind the star is a length alone, or none
length_behind : (len : List ℕ) (o : Option ℕ) (parts : List (List ℕ)) → decimal_value 4096 len ≡ o → parts_at 42 len ≡ parts
    → numbers_of (4096 ∷ []) parts ≡ (o >>= λ n. Some (n ∷ []))
length_behind len (Some n) parts e is = rw (← is, read_whole 4096 len n (omega arith) e, e) refl
length_behind len None [] e is = refl
length_behind len None (x ∷ []) e is =
    ap (λ (o : Option ℕ). o >>= λ n. Some (n ∷ [])) (ap (decimal_value 4096) (sym (parts_joined 42 len (x ∷ []) is)) ∙ e)
length_behind len None (x ∷ y ∷ rest) e is = none_more 4096 (decimal_value 4096 x) y rest

-- a word with a star is an offset and a length, or no place
pub starred : (word offset len : List ℕ) (b : Bool) → parts_at 42 word ≡ offset ∷ parts_at 42 len
    → b ≡ (is_some (decimal_value 65535 offset) && is_some (decimal_value 4096 len)) → MatchBool b (IsPatchPlace word) (IsNoPatchPlace word)
starred word offset len b e is = search (rules, length_behind, some_parts)

no_write : (parts : List (List ℕ)) (bytes : List ℕ) → 0 < length bytes → patch_at parts bytes ≡ None → numbers_of offset_limits parts ≡ None
no_write parts bytes some none = search rules

wide_bytes : (parts : List (List ℕ)) (bytes : List ℕ) → patch_at parts bytes ≡ None → IsSome (numbers_of range_limits parts) → length bytes ≢ 1
wide_bytes parts bytes none range = search rules

range_parts : (parts : List (List ℕ)) → IsSome (numbers_of range_limits parts) → length parts ≡ 2
range_parts parts range = search rules

-- a place and bytes that are no patch are a wide fill
pub wide_fill : (text place digits bytes : List ℕ) → patch_of text ≡ None → parts_at 58 text ≡ place ∷ digits ∷ [] → IsPatchPlace place
    → decoded (decode_of digits) ≡ Some bytes → 0 < length bytes → RoundColon text IsWideFill
wide_fill text place digits bytes none parts is stand some =
    let unpatched : patch_at (parts_at 42 place) bytes ≡ None = sym (patch_read text place digits bytes parts stand) ∙ none in
    let range : IsSome (numbers_of range_limits (parts_at 42 place)) = elim is [
      | inl offset ↦ absurd (cc (rw (no_write (parts_at 42 place) bytes some unpatched) at offset))
      | inr found ↦ found
    ] in
    record {
      place = place;
      digits = digits;
      parts = parts;
      holds = record { bytes = bytes; range = range_parts (parts_at 42 place) range; stand = stand; many = wide_bytes (parts_at 42 place) bytes unpatched range };
    }
