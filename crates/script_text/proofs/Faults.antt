-- Faults of numbers.
use Rattle.std.proofs.Common.{◌≡◌, ◌≢◌, ℕ, ◌+◌, ◌<◌, ◌≤◌, inl, inr, true, eqb, List, [], ◌∷◌, length, get_or, drop, Option, Some, None, zero, suc, refl, sym, ap, ◌∙◌, arith, rules, length-drop, drop-drop, length-append, ◌++◌}
use Rattle.std.specs.Prelude.{slice_get}
use Rattle.std.specs.List.{count_by}
use Rattle.std.proofs.lemmas.List.Splits.{length-slice_split}
use Rattle.std.specs.Str.{all_ascii_digits}
use Rattle.text.specs.Number.{value_from, decimal_value}
use Rattle.text.specs.Parts.{◌>>=◌, parts_at}
use Rattle.text.specs.Fields.{numbers_of}
use Rattle.text.proofs.Options.{some_is}
use Rattle.text.proofs.Numbers.{digits_of_undigit, digits_of_large, digits_of_good}
use Rattle.text.proofs.Forms.{numbers_apart}
use Rattle.script_text.specs.declared.reasons.NumberFault.{NumberFault}
use Rattle.script_text.specs.declared.reasons.LineReason.{LineReason}
use Rattle.script_text.specs.NumberFaults.{IsNumberFault}
use Rattle.script_text.specs.FieldReasons.{IsFaultAt, HasWrongField, IsFieldReason}
use Rattle.script_text.proofs.Results.{found}

-- a word with a fault is no number
pub number_fault : (limit : ℕ) (word : List ℕ) (fault : NumberFault) → IsNumberFault limit word fault → decimal_value limit word ≡ None
number_fault limit word fault h = search (rules, digits_of_undigit, digits_of_large)

-- digits that are no number, and have no leading zero, are above the limit
pub above_limit : (limit : ℕ) (word : List ℕ) → decimal_value limit word ≡ None → 0 < length word → all_ascii_digits word ≡ true
    → (get_or word 0 0 ≡ 48 → length word ≤ 1) → limit < value_from 0 word
above_limit limit word none some digits lead = search (rules, digits_of_good)

-- ---- fields

none_left : (o : Option ℕ) (os : Option (List ℕ)) → os ≡ None → (o >>= (λ n. os >>= (λ ns. Some (n ∷ ns)))) ≡ None
none_left o os e = search rules

-- with one field that is no number there are no numbers
pub none_at : (limits : List ℕ) (fields : List (List ℕ)) (k : ℕ) → k < length limits → k < length fields
    → decimal_value (get_or limits k 0) (get_or fields k []) ≡ None → numbers_of limits fields ≡ None
none_at [] fields k lt of e = absurd (omega arith)
none_at (limit ∷ limits) [] k lt of e = absurd (omega arith)
none_at (limit ∷ limits) (word ∷ words) zero lt of e = rw e refl
none_at (limit ∷ limits) (word ∷ words) (suc k) lt of e = none_left (decimal_value limit word) (numbers_of limits words)
    (none_at limits words k (omega arith) (omega arith) e)

pub fault_at : (limits : List ℕ) (fields : List (List ℕ)) (at : ℕ) (fault : NumberFault) → IsFaultAt limits fields at fault → numbers_of limits fields ≡ None
fault_at limits fields at fault h = none_at limits fields h.before h.limited h.within (number_fault _ _ fault h.faulty)

pub field_reason : (limits : List ℕ) (fields : List (List ℕ)) (reason : LineReason) → IsFieldReason limits fields reason → numbers_of limits fields ≡ None
field_reason limits fields reason h = search (rules, numbers_apart, fault_at)

-- ---- the first wrong field

pub many_parts : (c : ℕ) (text : List ℕ) → length (parts_at c text) ≡ count_by (λ b. eqb b c) text + 1
many_parts c text = length-slice_split (λ b. eqb b c) text

-- what is found, made into more
pub then_none : {A B : Type 0} (o : Option A) (f : A → B) → (o >>= λ x. Some (f x)) ≡ None → o ≡ None
then_none None f e = refl
then_none (Some x) f e = absurd cc

pub wrong_first : (limit : ℕ) (limits word : List ℕ) (words : List (List ℕ)) → decimal_value limit word ≡ None → HasWrongField (limit ∷ limits) (word ∷ words)
wrong_first limit limits word words e = record { before = 0; limited = omega arith; within = omega arith; none = e }

pub wrong_behind : (limit : ℕ) (limits word : List ℕ) (words : List (List ℕ)) → HasWrongField limits words → HasWrongField (limit ∷ limits) (word ∷ words)
wrong_behind limit limits word words w = record { before = suc w.before; limited = omega (arith, w.limited); within = omega (arith, w.within); none = w.none }

-- as many fields as limits, which are no numbers
pub some_wrong : (limits : List ℕ) (fields : List (List ℕ)) → numbers_of limits fields ≡ None → length fields ≡ length limits → HasWrongField limits fields
some_wrong [] [] e l = absurd cc
some_wrong [] (word ∷ words) e l = absurd (omega (arith, l))
some_wrong (limit ∷ limits) [] e l = absurd (omega (arith, l))
some_wrong (limit ∷ limits) (word ∷ words) e l =
    elim (found (decimal_value limit word)) [
      | inl none ↦ wrong_first limit limits word words none
      | inr one ↦ wrong_behind limit limits word words (some_wrong limits words (then_none (numbers_of limits words) (λ ns. one.0 ∷ ns) (rw one.1 at e)) (omega (arith, l)))
    ]

pub get_dropped : (lines : List (List ℕ)) (i : ℕ) (line : List ℕ) → slice_get (drop i lines) 0 ≡ Some line → slice_get lines i ≡ Some line
get_dropped lines zero line e = e
get_dropped [] (suc i) line e = absurd cc
get_dropped (x ∷ xs) (suc i) line e = get_dropped xs i line e

pub got_is : (lines : List (List ℕ)) (i : ℕ) (line : List ℕ) → slice_get lines i ≡ Some line → (i < length lines) × (get_or lines i [] ≡ line)
got_is [] i line e = absurd cc
got_is (x ∷ xs) zero line e = (omega arith, some_is x line e)
got_is (x ∷ xs) (suc i) line e = let rest = got_is xs i line e in (omega (arith, rest.0), rest.1)

pub one_further : (parts : List (List ℕ)) (n : ℕ) → drop 1 (drop n parts) ≡ drop (n + 1) parts
one_further parts n = drop-drop 1 n parts

-- behind a field that is a number, the wrong one is still to come
pub wrong_on : (limits : List ℕ) (fields parts : List (List ℕ)) (i : ℕ) (word : List ℕ) (behind : List (List ℕ)) (w : HasWrongField limits fields) → i ≤ w.before
    → parts ≡ drop i fields → slice_get parts 0 ≡ Some word → (1 < length parts → behind ≡ drop 1 parts) → (decimal_value (get_or limits i 0) word ≡ None → ⊥)
    → (x : HasWrongField limits fields) × (i + 1 ≤ x.before) × (behind ≡ drop (i + 1) fields)
wrong_on limits fields parts i word behind w le parts_are e next number =
    let got = got_is fields i word (get_dropped fields i word (ap (λ (t : List (List ℕ)). slice_get t 0) (sym parts_are) ∙ e)) in
    let other : i ≢ w.before = λ same. number (rw (← same, got.1) at w.none) in
    let later : i + 1 ≤ w.before = omega (arith, le, other) in
    let long : 1 < length parts = omega (arith, later, w.within, ap length parts_are, length-drop i fields) in
    (w, later, next long ∙ ap (drop 1) parts_are ∙ one_further fields i)

-- ---- parts one by one

-- the part after so many others
pub next_is : (parts rest : List (List ℕ)) (n : ℕ) (word : List ℕ) (more : List (List ℕ)) → rest ≡ drop n parts → rest ≡ word ∷ more → slice_get parts n ≡ Some word
next_is parts rest n word more dropped e = get_dropped parts n word (ap (λ (t : List (List ℕ)). slice_get t 0) (sym dropped ∙ e))

-- and those after it
pub rest_on : {A : Type 0} (parts rest more : List (List ℕ)) (front longer : List A) (x : A) (word : List ℕ) → rest ≡ drop (length front) parts → rest ≡ word ∷ more
    → longer ≡ front ++ x ∷ [] → more ≡ drop (length longer) parts
rest_on parts rest more front longer x word dropped e is =
    let long : length longer ≡ length front + 1 = ap length is ∙ length-append front (x ∷ []) in
    ap (drop 1) (sym e ∙ dropped) ∙ one_further parts (length front) ∙ ap (λ (n : ℕ). drop n parts) (sym long)
