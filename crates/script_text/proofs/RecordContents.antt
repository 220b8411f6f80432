-- What the text behind the numbers of a record's line says.
use Rattle.std.proofs.Common.{◌≡◌, ℕ, ◌^◌, ◌<◌, Bool, true, false, List, [], ◌∷◌, length, Option, Some, None, Result, Ok, Err, codes, refl, sym, subst, ap, ◌∙◌, arith, rules}
use Rattle.std.specs.Prelude.{bytes_eq}
use Rattle.std.specs.Fmt.{decimal}
use Rattle.hex.specs.Hex.{decode_of, is_hex_digit}
use Rattle.hex.specs.declared.error.FromHexError.{FromHexError}
use Rattle.hex.proofs.HexLemmas.{decode_of-ok}
use Rattle.redo_core.specs.Data.{RecordData}
use Rattle.redo_core.specs.Shape.{max_patches}
use Rattle.redo_core.specs.declared.patches.Patch.{Patch}
use Rattle.redo_core.specs.declared.facts.Fact.TheVariants.{Record}
use Rattle.redo_core.specs.declared.records.RecordHead.{RecordHead}
use Rattle.text.specs.Number.{decimal_value}
use Rattle.text.specs.Parts.{◌>>=◌, parts_at}
use Rattle.text.specs.Fields.{field_of}
use Rattle.text.specs.HexDigits.{decoded}
use Rattle.script_text.specs.FactLine.{write_at, write_of, fill_at, fill_of, patch_at, patch_from, patch_of, each_patch, contents_from, contents_of, FitNoRecord, shaped, record_of_patches, record_of_contents}
use Rattle.text.proofs.Numbers.{numbers_are_decimals, lacks_decimal}
use Rattle.text.proofs.Cursor.{no_number}
use Rattle.text.proofs.Split.{some_parts, lacks, parts_joined, joined_parts, lacks_passing}

-- ---- one patch

one_byte : (offset len : List ℕ) (r : Result (List ℕ) FromHexError) → ((bytes : List ℕ) → r ≡ Ok bytes → length bytes ≡ 1 → ⊥)
    → (decoded r >>= fill_at offset len) ≡ None
one_byte offset len (Err e) h = refl
one_byte offset len (Ok []) h = refl
one_byte offset len (Ok (b ∷ [])) h = absurd (h (b ∷ []) refl refl)
one_byte offset len (Ok (b ∷ c ∷ bs)) h = refl

-- a fill has two digits
pub no_fill : (offset len digits : List ℕ) → (length digits ≡ 2 → ⊥) → fill_of offset len digits ≡ None
no_fill offset len digits other = one_byte offset len (decode_of digits) (λ bytes e one. other (omega (arith, (decode_of-ok digits bytes e).2, one)))

-- digits are one part
decoded_whole : (digits bytes : List ℕ) → decode_of digits ≡ Ok bytes → parts_at 58 digits ≡ digits ∷ []
decoded_whole digits bytes e = joined_parts 58 digits [] (lacks_passing is_hex_digit 58 digits (decode_of-ok digits bytes e).1 refl, tt)

not_decoded : (place digits : List ℕ) (parts : List (List ℕ)) (f : FromHexError) → parts_at 58 digits ≡ parts → decode_of digits ≡ Err f
    → patch_from (place ∷ parts) ≡ None
unfolding patch_from
not_decoded place digits [] f is e = refl
not_decoded place digits (x ∷ []) f is e =
    let whole : decode_of x ≡ Err f = ap decode_of (sym (parts_joined 58 digits (x ∷ []) is)) ∙ e in
    ap (λ (r : Result (List ℕ) FromHexError). decoded r >>= patch_at (parts_at 42 place)) whole
not_decoded place digits (x ∷ y ∷ rest) f is e = refl

behind_colon : (place digits : List ℕ) (r : Result (List ℕ) FromHexError) → decode_of digits ≡ r
    → patch_from (place ∷ parts_at 58 digits) ≡ (decoded r >>= patch_at (parts_at 42 place))
unfolding patch_from
behind_colon place digits r e = search (rules, decoded_whole, not_decoded)

-- behind the first colon stand digits, where there is a patch
colon : (text place digits : List ℕ) → parts_at 58 text ≡ place ∷ parts_at 58 digits
    → patch_of text ≡ (decoded (decode_of digits) >>= patch_at (parts_at 42 place))
colon text place digits e = ap patch_from e ∙ behind_colon place digits (decode_of digits) refl

-- a number is one part
pub read_whole : (limit : ℕ) (word : List ℕ) (n : ℕ) → limit < 2 ^ 64 → decimal_value limit word ≡ Some n → parts_at 42 word ≡ word ∷ []
read_whole limit word n lt e =
    let is = (numbers_are_decimals limit n word lt).0 e in
    joined_parts 42 word [] (subst (λ (t : List ℕ). lacks 42 t ≡ true) (sym is.0) (lacks_decimal 42 n (omega (arith, lt, is.1)) refl), tt)

no_len : (offset len bytes : List ℕ) → decimal_value 4096 len ≡ None → fill_at offset len bytes ≡ None
no_len offset len bytes e = search rules

behind_star : (offset len bytes : List ℕ) (o : Option ℕ) (parts : List (List ℕ)) → decimal_value 4096 len ≡ o → parts_at 42 len ≡ parts
    → patch_at (offset ∷ parts) bytes ≡ fill_at offset len bytes
behind_star offset len bytes (Some n) parts e is = ap (λ (t : List (List ℕ)). patch_at (offset ∷ t) bytes) (sym is ∙ read_whole 4096 len n (omega arith) e)
behind_star offset len bytes None [] e is = absurd (omega (arith, some_parts 42 len, ap length is))
behind_star offset len bytes None (x ∷ []) e is = ap (λ (t : List ℕ). fill_at offset t bytes) (sym (parts_joined 42 len (x ∷ []) is))
behind_star offset len bytes None (x ∷ y ∷ rest) e is = sym (no_len offset len bytes e)

then_same : (o : Option (List ℕ)) (f g : List ℕ → Option Patch) → ((bytes : List ℕ) → f bytes ≡ g bytes) → (o >>= f) ≡ (o >>= g)
then_same o f g same = search rules

-- a place with no star is that of a write
unstarred : (text place digits : List ℕ) → parts_at 58 text ≡ place ∷ parts_at 58 digits → parts_at 42 place ≡ place ∷ []
    → patch_of text ≡ write_of place digits
unstarred text place digits e whole = colon text place digits e ∙ ap (λ (t : List (List ℕ)). decoded (decode_of digits) >>= patch_at t) whole

-- a number and a colon begin a write
pub write_is : (n : ℕ) (text digits : List ℕ) → field_of 65535 (parts_at 58 text) ≡ Some (n, parts_at 58 digits)
    → patch_of text ≡ write_of (decimal n) digits
write_is n text digits e = search (rules, numbers_are_decimals, unstarred, read_whole)

no_write : (place bytes : List ℕ) → decimal_value 65535 place ≡ None → write_at place bytes ≡ None
no_write place bytes e = search rules

then_none : (o : Option (List ℕ)) (f : List ℕ → Option Patch) → ((bytes : List ℕ) → f bytes ≡ None) → (o >>= f) ≡ None
then_none o f none = search rules

-- a place with neither a number nor a star encodes nothing
pub no_place : (text place digits : List ℕ) → field_of 65535 (parts_at 58 text) ≡ None → parts_at 58 text ≡ place ∷ parts_at 58 digits
    → parts_at 42 place ≡ place ∷ [] → patch_of text ≡ None
no_place text place digits none e whole =
    let word = no_number 65535 place (parts_at 58 digits) (ap (field_of 65535) (sym e) ∙ none) (some_parts 58 digits) in
    unstarred text place digits e whole ∙ then_none (decoded (decode_of digits)) (write_at place) (λ bytes. no_write place bytes word)

-- a fill's length stands behind the star
pub fill_is : (text place digits offset len : List ℕ) → parts_at 58 text ≡ place ∷ parts_at 58 digits → parts_at 42 place ≡ offset ∷ parts_at 42 len
    → patch_of text ≡ fill_of offset len digits
fill_is text place digits offset len e star = colon text place digits e
    ∙ ap (λ (t : List (List ℕ)). decoded (decode_of digits) >>= patch_at t) star
    ∙ then_same (decoded (decode_of digits)) (patch_at (offset ∷ parts_at 42 len)) (fill_at offset len)
    (λ bytes. behind_star offset len bytes (decimal_value 4096 len) (parts_at 42 len) refl refl)

-- ---- too many patches are those of no record

many_patches : (r : RecordData) → max_patches < length r.patches → shaped (Record r) ≡ None
unfolding shaped
many_patches r lt = search rules

pub no_record : (head : RecordHead) (init : Bool) (o : Option (List Patch)) → FitNoRecord o → record_of_patches head init o ≡ None
no_record head init o fit = search (rules, many_patches)

-- ---- contents with a comma

pub no_dash : (text front : List ℕ) (rest : List (List ℕ)) → parts_at 44 text ≡ front ∷ rest → 0 < length rest → bytes_eq text (codes "-") ≡ false
no_dash text front rest e some = search rules

pub anew_with : (head : RecordHead) (text front behind : List ℕ) → parts_at 44 text ≡ front ∷ parts_at 44 behind → bytes_eq front (codes "init") ≡ true
    → record_of_contents head (contents_of text) ≡ record_of_patches head true (each_patch (parts_at 44 behind))
unfolding contents_of contents_from
anew_with head text front behind e is = search rules

pub kept_with : (head : RecordHead) (text front behind : List ℕ) → parts_at 44 text ≡ front ∷ parts_at 44 behind → bytes_eq front (codes "init") ≡ false
    → record_of_contents head (contents_of text) ≡ record_of_patches head false (each_patch (parts_at 44 text))
unfolding contents_of contents_from
kept_with head text front behind e is = search (rules, no_dash, some_parts)
