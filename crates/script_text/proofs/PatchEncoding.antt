-- Patches are read exactly where they are encoded.
use Rattle.std.proofs.Common.{◌≡◌, ℕ, ◌<◌, ◌≤◌, inl, inr, Bool, true, false, eqb, List, [], ◌∷◌, ◌++◌, length, Some, Result, Ok, codes, refl, sym, ap, ◌∙◌, subst, arith, rules}
use Rattle.std.proofs.lemmas.Option.{none-some}
use Rattle.std.specs.Prelude.{bytes_eq}
use Rattle.std.specs.Char.{is_ascii_digit}
use Rattle.std.specs.Fmt.{decimal}
use Rattle.std.specs.List.{AllZip, join_with_byte}
use Rattle.hex.specs.Hex.{decode_of, is_hex_digit}
use Rattle.hex.specs.declared.error.FromHexError.{FromHexError}
use Rattle.hex.proofs.HexLemmas.{decode_of-ok}
use Rattle.redo_core.specs.Writes.{WriteData}
use Rattle.redo_core.specs.declared.patches.Patch.{Patch}
use Rattle.redo_core.specs.declared.patches.Patch.TheVariants.{Bytes, Fill}
use Rattle.redo_core.specs.declared.facts.Fact.{Fact}
use Rattle.redo_core.specs.declared.records.RecordHead.{RecordHead}
use Rattle.text.specs.Number.{decimal_value}
use Rattle.text.specs.Parts.{◌>>=◌, parts_at}
use Rattle.text.specs.HexDigits.{decoded}
use Rattle.script_text.specs.FactLine.{write_at, fill_at, patch_at, patch_from, patch_of, each_patch, Contents, contents, contents_from, contents_of, record_of_contents}
use Rattle.script_text.specs.FactText.{behind_init}
use Rattle.script_text.specs.Encoded.{EncodesPatch, EncodesContents}
use Rattle.text.proofs.Numbers.{numbers_are_decimals, decimal_is_read, lacks_decimal}
use Rattle.text.proofs.Options.{here, some_is, bind_some, either, true_is, no_test}
use Rattle.script_text.proofs.Results.{found}
use Rattle.text.proofs.Split.{lacks, AllLack, parts_joined, joined_parts, lacks_passing, lacks_append, lacks_joined}

abbrev write : ℕ → List ℕ → WriteData
write o bytes = record { offset = o; bytes = bytes }

-- ---- what is read is encoded

decoded_is : (r : Result (List ℕ) FromHexError) (bytes : List ℕ) → decoded r ≡ Some bytes → r ≡ Ok bytes
decoded_is r bytes h = search rules

-- a text of a place, a colon and digits
record Halves (text place digits bytes : List ℕ) : Type 0 where
  all : text ≡ place ++ 58 ∷ digits
  bytes_are : decode_of digits ≡ Ok bytes

write_is : (text place digits bytes : List ℕ) (p : Patch) → Halves text place digits bytes → write_at place bytes ≡ Some p → EncodesPatch text p
write_is text place digits [] p t h = absurd cc
write_is text place digits (b ∷ bs) p t h =
    let o = bind_some (decimal_value 65535 place) (λ n. here (Bytes (write n (b ∷ bs)))) p h in
    let n = (numbers_are_decimals 65535 o.0 place (omega arith)).0 o.1 in
    let whole : text ≡ decimal o.0 ++ 58 ∷ digits = t.all ∙ ap (λ (x : List ℕ). x ++ 58 ∷ digits) n.0 in
    let encoded : EncodesPatch text (Bytes (write o.0 (b ∷ bs))) =
    record { digits = digits; all = whole; offset = n.1; bytes = t.bytes_are; some = omega arith } in
    subst (EncodesPatch text) (some_is (Bytes (write o.0 (b ∷ bs))) p o.2) encoded

fill_is : (text place offset len digits bytes : List ℕ) (p : Patch) → Halves text place digits bytes → place ≡ offset ++ 42 ∷ len
    → fill_at offset len bytes ≡ Some p → EncodesPatch text p
fill_is text place offset len digits [] p t e h = absurd cc
fill_is text place offset len digits (b ∷ c ∷ bs) p t e h = absurd cc
fill_is text place offset len digits (b ∷ []) p t e h =
    let o = bind_some (decimal_value 65535 offset) (λ n. decimal_value 4096 len >>= (λ l. here (Fill n l b))) p h in
    let l = bind_some (decimal_value 4096 len) (λ l. here (Fill o.0 l b)) p o.2 in
    let n = (numbers_are_decimals 65535 o.0 offset (omega arith)).0 o.1 in
    let m = (numbers_are_decimals 4096 l.0 len (omega arith)).0 l.1 in
    let at : place ≡ decimal o.0 ++ 42 ∷ decimal l.0 = e ∙ ap (λ (x : List ℕ). x ++ 42 ∷ len) n.0 ∙ ap (λ (x : List ℕ). decimal o.0 ++ 42 ∷ x) m.0 in
    let whole : text ≡ (decimal o.0 ++ 42 ∷ decimal l.0) ++ 58 ∷ digits = t.all ∙ ap (λ (x : List ℕ). x ++ 58 ∷ digits) at in
    let encoded : EncodesPatch text (Fill o.0 l.0 b) = record { digits = digits; all = whole; in_offset = n.1; in_len = m.1; bytes = t.bytes_are } in
    subst (EncodesPatch text) (some_is (Fill o.0 l.0 b) p l.2) encoded

patch_at_is : (text place digits bytes : List ℕ) (at : List (List ℕ)) (p : Patch) → Halves text place digits bytes → parts_at 42 place ≡ at
    → patch_at at bytes ≡ Some p → EncodesPatch text p
patch_at_is text place digits bytes [] p t e h = absurd cc
patch_at_is text place digits bytes (offset ∷ []) p t e h =
    let is : place ≡ offset = parts_joined 42 place (offset ∷ []) e in
    let all : text ≡ offset ++ 58 ∷ digits = t.all ∙ ap (λ (x : List ℕ). x ++ 58 ∷ digits) is in
    write_is text offset digits bytes p (record { all = all; bytes_are = t.bytes_are }) h
patch_at_is text place digits bytes (offset ∷ len ∷ []) p t e h = fill_is text place offset len digits bytes p t (parts_joined 42 place (offset ∷ len ∷ []) e) h
patch_at_is text place digits bytes (a ∷ b ∷ c ∷ rest) p t e h = absurd cc

patch_is : (text : List ℕ) (parts : List (List ℕ)) (p : Patch) → parts_at 58 text ≡ parts → patch_from parts ≡ Some p → EncodesPatch text p
unfolding patch_from
patch_is text [] p e h = absurd cc
patch_is text (a ∷ []) p e h = absurd cc
patch_is text (a ∷ b ∷ c ∷ rest) p e h = absurd cc
patch_is text (a ∷ b ∷ []) p e h =
    let d = bind_some (decoded (decode_of b)) (patch_at (parts_at 42 a)) p h in
    let halves : Halves text a b d.0 = record { all = parts_joined 58 text (a ∷ b ∷ []) e; bytes_are = decoded_is (decode_of b) d.0 d.1 } in
    patch_at_is text a b d.0 (parts_at 42 a) p halves refl d.2

patches_are : (texts : List (List ℕ)) (ps : List Patch) → each_patch texts ≡ Some ps → AllZip EncodesPatch texts ps
patches_are [] [] h = tt
patches_are [] (p ∷ ps) h = absurd cc
patches_are (t ∷ ts) ps h =
    let one = bind_some (patch_of t) (λ p. each_patch ts >>= (λ rest. here (p ∷ rest))) ps h in
    let more = bind_some (each_patch ts) (λ rest. here (one.0 ∷ rest)) ps one.2 in
    subst (AllZip EncodesPatch (t ∷ ts)) (some_is (one.0 ∷ more.0) ps more.2) (patch_is t (parts_at 58 t) one.0 refl one.1, patches_are ts more.0 more.1)

from_parts : (text : List ℕ) (parts : List (List ℕ)) (c : Contents) → parts_at 44 text ≡ parts → contents_from parts ≡ Some c
    → EncodesContents text c.init c.patches
unfolding contents_from
from_parts text [] c e h = absurd cc
from_parts text (t ∷ ts) c e h =
    let joined : text ≡ join_with_byte 44 (t ∷ ts) = parts_joined 44 text (t ∷ ts) e in
    elim (either (bytes_eq t (codes "init")) (each_patch ts >>= (λ ps. here (contents true ps)))
    (each_patch (t ∷ ts) >>= (λ ps. here (contents false ps))) c h) [
      | inl anew ↦
          let ps = bind_some (each_patch ts) (λ ps. here (contents true ps)) c anew.1 in
          let whole : text ≡ join_with_byte 44 (codes "init" ∷ ts) = joined ∙ ap (λ (w : List ℕ). join_with_byte 44 (w ∷ ts))
          (true_is t (codes "init") anew.0) in
          let encoded : EncodesContents text true ps.0 = inr (ts, whole, patches_are ts ps.0 ps.1, omega arith) in
          subst (λ (d : Contents). EncodesContents text d.init d.patches) (some_is (contents true ps.0) c ps.2) encoded
      | inr other ↦
          let ps = bind_some (each_patch (t ∷ ts)) (λ ps. here (contents false ps)) c other.1 in
          let encoded : EncodesContents text false ps.0 = inr (t ∷ ts, joined, patches_are (t ∷ ts) ps.0 ps.1, omega arith) in
          subst (λ (d : Contents). EncodesContents text d.init d.patches) (some_is (contents false ps.0) c ps.2) encoded
    ]

pub contents_are_encoded : (text : List ℕ) (c : Contents) → contents_of text ≡ Some c → EncodesContents text c.init c.patches
unfolding contents_of
contents_are_encoded text c h = search (rules, from_parts)

-- ---- what is encoded is read

-- a byte that stands in no patch
record IsStrange (c : ℕ) : Type 0 where
  no_digit : is_ascii_digit c ≡ false
  no_colon : eqb 58 c ≡ false
  no_asterisk : eqb 42 c ≡ false
  no_hex_digit : is_hex_digit c ≡ false
  not_in_init : lacks c (codes "init") ≡ true

space : IsStrange 32
space = record { no_digit = refl; no_colon = refl; no_asterisk = refl; no_hex_digit = refl; not_in_init = refl }

digits_lack : (c : ℕ) (digits bytes : List ℕ) → decode_of digits ≡ Ok bytes → is_hex_digit c ≡ false → lacks c digits ≡ true
digits_lack c digits bytes e hex = lacks_passing is_hex_digit c digits (decode_of-ok digits bytes e).1 hex

-- what stands in front of the colon of a fill
place_lacks : (c offset len : ℕ) → offset ≤ 65535 → len ≤ 4096 → is_ascii_digit c ≡ false → eqb 42 c ≡ false
    → lacks c (decimal offset ++ 42 ∷ decimal len) ≡ true
place_lacks c offset len lo ll digit asterisk = search (rules, lacks_decimal, lacks_append)

patch_lacks : (c : ℕ) (text : List ℕ) (p : Patch) → IsStrange c → EncodesPatch text p → lacks c text ≡ true
patch_lacks c text p k s = search (rules, lacks_decimal, digits_lack, lacks_append)

patches_lack : (c : ℕ) (texts : List (List ℕ)) (ps : List Patch) → IsStrange c → AllZip EncodesPatch texts ps → AllLack c texts
patches_lack c [] ps k h = tt
patches_lack c (t ∷ ts) [] k h = absurd h
patches_lack c (t ∷ ts) (p ∷ ps) k h = (patch_lacks c t p k h.0, patches_lack c ts ps k h.1)

pieces_lack : (c : ℕ) (init : Bool) (texts : List (List ℕ)) (ps : List Patch) → IsStrange c → AllZip EncodesPatch texts ps → AllLack c (behind_init init texts)
pieces_lack c init texts ps k h = search (rules, patches_lack)

joined_lack : (c : ℕ) (texts : List (List ℕ)) → eqb 44 c ≡ false → AllLack c texts → lacks c (join_with_byte 44 texts) ≡ true
joined_lack c [] e h = refl
joined_lack c (t ∷ ts) e h = lacks_joined c 44 t ts e h

write_is_read : (o : ℕ) (bytes : List ℕ) → o ≤ 65535 → 0 < length bytes → write_at (decimal o) bytes ≡ Some (Bytes (write o bytes))
write_is_read o bytes le some = search (rules, decimal_is_read)

patch_is_read : (text : List ℕ) (p : Patch) → EncodesPatch text p → patch_of text ≡ Some p
unfolding patch_from
patch_is_read text (Bytes w) s =
    let front = lacks_decimal 58 w.offset (omega (arith, s.offset)) refl in
    let back = digits_lack 58 s.digits w.bytes s.bytes refl in
    let halves : parts_at 58 text ≡ decimal w.offset ∷ s.digits ∷ [] = ap (parts_at 58) s.all ∙ joined_parts 58 (decimal w.offset) (s.digits ∷ [])
    (front, (back, tt)) in
    let place : parts_at 42 (decimal w.offset) ≡ decimal w.offset ∷ [] = joined_parts 42 (decimal w.offset) []
    (lacks_decimal 42 w.offset (omega (arith, s.offset)) refl, tt) in
    ap patch_from halves ∙ rw (s.bytes, place) (write_is_read w.offset w.bytes s.offset s.some)
patch_is_read text (Fill offset len byte) s =
    let front = place_lacks 58 offset len s.in_offset s.in_len refl refl in
    let back = digits_lack 58 s.digits (byte ∷ []) s.bytes refl in
    let halves : parts_at 58 text ≡ (decimal offset ++ 42 ∷ decimal len) ∷ s.digits ∷ [] = ap (parts_at 58) s.all ∙ joined_parts 58
    (decimal offset ++ 42 ∷ decimal len) (s.digits ∷ []) (front, (back, tt)) in
    let two : AllLack 42 (decimal offset ∷ decimal len ∷ []) =
    (lacks_decimal 42 offset (omega (arith, s.in_offset)) refl, (lacks_decimal 42 len (omega (arith, s.in_len)) refl, tt)) in
    let place : parts_at 42 (decimal offset ++ 42 ∷ decimal len) ≡ decimal offset ∷ decimal len ∷ [] = joined_parts 42 (decimal offset)
    (decimal len ∷ []) two in
    let n = decimal_is_read 65535 offset (omega arith) s.in_offset in
    let m = decimal_is_read 4096 len (omega arith) s.in_len in
    ap patch_from halves ∙ rw (s.bytes, place, n, m) refl

each_patch_is_read : (texts : List (List ℕ)) (ps : List Patch) → AllZip EncodesPatch texts ps → each_patch texts ≡ Some ps
each_patch_is_read [] [] h = refl
each_patch_is_read [] (p ∷ ps) h = absurd h
each_patch_is_read (t ∷ ts) [] h = absurd h
each_patch_is_read (t ∷ ts) (p ∷ ps) h = rw (patch_is_read t p h.0, each_patch_is_read ts ps h.1) refl

-- the word init is no patch
init_is_no_patch : (p : Patch) → patch_of (codes "init") ≡ Some p → ⊥
unfolding patch_from
init_is_no_patch p h = none-some p h

no_init : (text : List ℕ) (p : Patch) → EncodesPatch text p → bytes_eq text (codes "init") ≡ false
no_init text p s = search (rules, init_is_no_patch, patch_is_read)

-- a text of patches is no dash
no_dash : (text : List ℕ) → lacks 45 text ≡ true → bytes_eq text (codes "-") ≡ false
no_dash text h = no_test (bytes_eq text (codes "-")) (λ t. let e : text ≡ codes "-" = true_is text (codes "-") t in absurd (cc (sym h ∙ ap (lacks 45) e)))

from_is_read : (init : Bool) (texts : List (List ℕ)) (ps : List Patch) → AllZip EncodesPatch texts ps → 0 < length (behind_init init texts)
    → contents_from (behind_init init texts) ≡ Some (contents init ps)
unfolding contents_from
from_is_read init texts ps h some = search (rules, each_patch_is_read, no_init)

pieces_parted : (pieces : List (List ℕ)) → AllLack 44 pieces → 0 < length pieces → parts_at 44 (join_with_byte 44 pieces) ≡ pieces
pieces_parted [] h some = absurd (omega arith)
pieces_parted (x ∷ xs) h some = joined_parts 44 x xs h

joined_is_read : (init : Bool) (texts : List (List ℕ)) (ps : List Patch) → AllZip EncodesPatch texts ps → 0 < length (behind_init init texts)
    → contents_of (join_with_byte 44 (behind_init init texts)) ≡ Some (contents init ps)
unfolding contents_of
joined_is_read init texts ps h some = search (rules, pieces_parted, pieces_lack, no_dash, joined_lack, from_is_read)

pub contents_are_read : (text : List ℕ) (init : Bool) (ps : List Patch) → EncodesContents text init ps → contents_of text ≡ Some (contents init ps)
unfolding contents_of
contents_are_read text init ps h = search (rules, joined_is_read)

-- the contents stand in one field
pub contents_lack_space : (text : List ℕ) (init : Bool) (ps : List Patch) → EncodesContents text init ps → lacks 32 text ≡ true
contents_lack_space text init ps (inl dash) = rw dash.0 refl
contents_lack_space text init ps (inr more) = rw more.1 (joined_lack 32 (behind_init init more.0) refl (pieces_lack 32 init more.0 ps space more.2))

-- what makes a record is one field
pub record_is_field : (head : RecordHead) (text : List ℕ) (fact : Fact) → record_of_contents head (contents_of text) ≡ Some fact → parts_at 32 text ≡ text ∷ []
record_is_field head text fact e =
    elim (found (contents_of text)) [
      | inl none ↦ absurd (cc (rw none at e))
      | inr one ↦ joined_parts 32 text [] (contents_lack_space text one.0.init one.0.patches (contents_are_encoded text one.0 one.1), tt)
    ]
