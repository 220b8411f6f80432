-- Reasons of lines of a word and numbers.
use Rattle.std.proofs.Common.{get_or, ◌≡◌, ℕ, Bool, cond, List, [], ◌∷◌, length, Option, Some, None, refl, sym, ap, arith, rules}
use Rattle.std.proofs.lemmas.Grind.{common_steps}
use Rattle.std.proofs.lemmas.Slice.Zip.{AllZip-long}
use Rattle.std.specs.Prelude.{bytes_eq, MatchBool}
use Rattle.text.specs.Parts.{◌>>=◌}
use Rattle.text.specs.Fields.{Form, numbers_of, made_by, read_by}
use Rattle.text.proofs.Forms.{numbers_within}
use Rattle.script_text.specs.declared.reasons.LineReason.{LineReason}
use Rattle.script_text.specs.declared.reasons.LineReason.TheVariants.{CarriageReturn, UnknownWord, FieldCount, AdvanceFieldCount, Field, Zero, PastPage, ManyPatches, Patch, Shape}
use Rattle.script_text.specs.FormReasons.{IsFormReason, IsReasonBy}
use Rattle.script_text.proofs.Faults.{field_reason}

-- fields that are no numbers make nothing
pub unread_numbers : {A : Type 0} (limits : List ℕ) (fields : List (List ℕ)) (make : List ℕ → Option A) → numbers_of limits fields ≡ None
    → (numbers_of limits fields >>= make) ≡ None
unread_numbers limits fields make e = ap (λ (o : Option (List ℕ)). o >>= make) e

-- what holds by a test, of the two sides
pub by_test : {A : Type 0} (b : Bool) (P Q : Type 0) (x y : Option A) → (P → x ≡ None) → (Q → y ≡ None) → MatchBool b P Q → cond b x y ≡ None
by_test b P Q x y p q h = search rules

pub form_reason : {A : Type 0} (f : Form A) (fields : List (List ℕ)) (reason : LineReason) → IsFormReason f fields reason → made_by f fields ≡ None
form_reason f fields (Zero at) h = rw h.1.0 h.1.1
form_reason f fields PastPage h = rw h.1.0 h.1.1
form_reason f fields CarriageReturn h = absurd h
form_reason f fields UnknownWord h = absurd h
form_reason f fields (FieldCount wanted) h = unread_numbers f.limits fields f.made (field_reason f.limits fields (FieldCount wanted) h)
form_reason f fields AdvanceFieldCount h = absurd h
form_reason f fields (Field at fault) h = unread_numbers f.limits fields f.made (field_reason f.limits fields (Field at fault) h)
form_reason f fields ManyPatches h = absurd h
form_reason f fields (Patch at fault) h = absurd h
form_reason f fields (Shape fault) h = absurd h

pub reason_by : {A : Type 0} (forms : List (Form A)) (fields : List (List ℕ)) (reason : LineReason) → IsReasonBy forms fields reason → read_by forms fields ≡ None
reason_by forms [] reason h = refl
reason_by [] (word ∷ fields) reason h = refl
reason_by (f ∷ forms) (word ∷ fields) reason h = by_test (bytes_eq word f.word) _ _ _ _ (form_reason f fields reason) (reason_by forms (word ∷ fields) reason) h

-- ---- lists of so many numbers

-- there are as many numbers as limits
pub numbers_long : (limits : List ℕ) (fields : List (List ℕ)) (ns : List ℕ) → numbers_of limits fields ≡ Some ns → length ns ≡ length limits
numbers_long limits fields ns e = sym (AllZip-long _ ns limits (numbers_within limits fields ns e))

pub two_are : (ns : List ℕ) → length ns ≡ 2 → ns ≡ get_or ns 0 0 ∷ get_or ns 1 0 ∷ []
two_are ns e = grind (arith, common_steps)

pub three_are : (ns : List ℕ) → length ns ≡ 3 → ns ≡ get_or ns 0 0 ∷ get_or ns 1 0 ∷ get_or ns 2 0 ∷ []
three_are ns e = grind (arith, common_steps)
