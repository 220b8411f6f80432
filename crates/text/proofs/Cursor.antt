-- The number in front of a text is that of its first part, whatever separator ends it.
use Rattle.std.proofs.Common.{◌≡◌, ℕ, ◌+◌, ◌-◌, ◌*◌, ◌<◌, ◌≤◌, Bool, true, false, cond, ◌&&◌, eqb, ltb, leb, List, [], ◌∷◌, length, get_or, take, drop, Option, Some, None, refl, sym, ap, ◌∙◌, ◌⊎◌, arith, inl, inr}
use Rattle.std.specs.Char.{is_ascii_digit}
use Rattle.std.specs.Str.{all_ascii_digits}
use Rattle.std.specs.List.{onto_first}
use Rattle.std.proofs.lemmas.Bool.{cases_lt, eqb-true}
use Rattle.std.proofs.lemmas.Bool.Decides.{nat_tests}
use Rattle.std.proofs.lemmas.List.{take_all}
use Rattle.text.specs.Number.{value_from, digits_of, decimal_value, number_on, number_front}
use Rattle.text.specs.Parts.{◌>>=◌, parts_at}
use Rattle.text.specs.Fields.{first_of, field_of, numbers_of}
use Rattle.text.proofs.Numbers.{value_from-ge, digits_of_undigit, digits_of_large, digits_of_good}
use Rattle.text.proofs.Options.{no_test}
use Rattle.text.proofs.Split.{some_parts}

-- ---- the first part of a text

-- what stands behind a number, as parts: nothing, or what the separator parts off
abbrev pub parts_behind : ℕ → Option (ℕ × List ℕ) → Option (ℕ × List (List ℕ))
parts_behind s None = None
parts_behind s (Some (n, [])) = Some (n, [])
parts_behind s (Some (n, c ∷ cs)) = cond (eqb c s) (Some (n, parts_at s cs)) None

-- the number of the first part, by any reading of it
abbrev pub read_first : (List ℕ → Option ℕ) → List (List ℕ) → Option (ℕ × List (List ℕ))
read_first read [] = None
read_first read (word ∷ rest) = read word >>= λ n. Some (n, rest)

-- the number of n's digits and those of a word
abbrev pub digits_on : ℕ → ℕ → List ℕ → Option ℕ
digits_on limit n word = cond (all_ascii_digits word && leb (value_from n word) limit) (Some (value_from n word)) None

-- words that are read alike give alike first parts, the one behind a byte more
read_onto : (c : ℕ) (read more : List ℕ → Option ℕ) (parts : List (List ℕ)) → 0 < length parts → ((word : List ℕ) → more (c ∷ word) ≡ read word)
    → read_first more (onto_first c parts) ≡ read_first read parts
read_onto c read more [] some alike = absurd (omega arith)
read_onto c read more (word ∷ rest) some alike = ap (λ (o : Option ℕ). o >>= λ n. Some (n, rest)) (alike word)

none_onto : (c : ℕ) (read : List ℕ → Option ℕ) (parts : List (List ℕ)) → ((word : List ℕ) → read (c ∷ word) ≡ None)
    → read_first read (onto_first c parts) ≡ None
none_onto c read [] none = ap (λ (o : Option ℕ). o >>= λ n. Some (n, [])) (none [])
none_onto c read (word ∷ rest) none = ap (λ (o : Option ℕ). o >>= λ n. Some (n, rest)) (none word)

either_way : (b : Bool) → (b ≡ true) ⊎ (b ≡ false)
either_way true = inl refl
either_way false = inr refl

-- a separator is no digit
no_separator : (s c : ℕ) → is_ascii_digit s ≡ false → is_ascii_digit c ≡ true → eqb c s ≡ false
no_separator s c apart digit = no_test (eqb c s) (λ e. absurd (cc (sym digit ∙ ap is_ascii_digit (eqb-true c s e) ∙ apart)))

-- ---- digits behind digits

no_digits : (limit n : ℕ) → n ≤ limit → digits_on limit n [] ≡ Some n
no_digits limit n le = let yes : leb n limit ≡ true = grind (arith, nat_tests) in rw yes refl

one_digit : (limit n c : ℕ) (word : List ℕ) → is_ascii_digit c ≡ true → digits_on limit n (c ∷ word) ≡ digits_on limit (10 * n + (c - 48)) word
one_digit limit n c word digit = rw digit refl

no_digit : (limit n c : ℕ) (word : List ℕ) → is_ascii_digit c ≡ false → digits_on limit n (c ∷ word) ≡ None
no_digit limit n c word other = rw other refl

above : (b : Bool) (limit n : ℕ) → limit < n → cond (b && leb n limit) (Some n) None ≡ None
above true limit n lt = let no : leb n limit ≡ false = grind (arith, nat_tests) in rw no refl
above false limit n lt = refl

too_large : (limit n : ℕ) (word : List ℕ) → limit < n → digits_on limit n word ≡ None
too_large limit n word lt = above (all_ascii_digits word) limit (value_from n word) (omega (arith, value_from-ge n word))

on_digit : (s limit n c : ℕ) (cs : List ℕ) → is_ascii_digit s ≡ false → is_ascii_digit c ≡ true
    → (10 * n + (c - 48) ≤ limit → parts_behind s (number_on limit (10 * n + (c - 48)) cs) ≡ read_first (digits_on limit (10 * n + (c - 48))) (parts_at s cs))
    → parts_behind s (number_on limit n (c ∷ cs)) ≡ read_first (digits_on limit n) (parts_at s (c ∷ cs))
on_digit s limit n c cs apart digit rest =
    let next : ℕ = 10 * n + (c - 48) in
    elim (cases_lt limit next) [
      | inl large ↦
          let no : leb next limit ≡ false = grind (arith, nat_tests) in
          rw (digit, no, no_separator s c apart digit) (sym (none_onto c (digits_on limit n) (parts_at s cs)
          (λ word. one_digit limit n c word digit ∙ too_large limit next word large)))
      | inr small ↦
          let yes : leb next limit ≡ true = grind (arith, nat_tests) in
          rw (digit, yes, no_separator s c apart digit) (rest small ∙ sym (read_onto c (digits_on limit next) (digits_on limit n) (parts_at s cs) (some_parts s cs)
          (λ word. one_digit limit n c word digit)))
    ]

on_other : (s limit n c : ℕ) (cs : List ℕ) → n ≤ limit → is_ascii_digit c ≡ false
    → parts_behind s (number_on limit n (c ∷ cs)) ≡ read_first (digits_on limit n) (parts_at s (c ∷ cs))
on_other s limit n c cs le other =
    elim (either_way (eqb c s)) [
      | inl ends ↦ rw (other, ends, no_digits limit n le) refl
      | inr another ↦ rw (other, another) (sym (none_onto c (digits_on limit n) (parts_at s cs) (λ word. no_digit limit n c word other)))
    ]

on_is_first : (s limit n : ℕ) (text : List ℕ) → is_ascii_digit s ≡ false → n ≤ limit
    → parts_behind s (number_on limit n text) ≡ read_first (digits_on limit n) (parts_at s text)
on_is_first s limit n [] apart le = rw (no_digits limit n le) refl
on_is_first s limit n (c ∷ cs) apart le =
    elim (either_way (is_ascii_digit c)) [
      | inl digit ↦ on_digit s limit n c cs apart digit (λ small. on_is_first s limit (10 * n + (c - 48)) cs apart small)
      | inr other ↦ on_other s limit n c cs le other
    ]

-- ---- the number in front

first_is_read : (limit : ℕ) (parts : List (List ℕ)) → first_of limit parts ≡ read_first (decimal_value limit) parts
first_is_read limit [] = refl
first_is_read limit (word ∷ rest) = refl

none_first : (limit c : ℕ) (parts : List (List ℕ)) → ((word : List ℕ) → decimal_value limit (c ∷ word) ≡ None) → first_of limit (onto_first c parts) ≡ None
none_first limit c parts none = first_is_read limit (onto_first c parts) ∙ none_onto c (decimal_value limit) parts none

zero_is : (limit : ℕ) → digits_of limit (48 ∷ []) ≡ Some 0
zero_is limit = digits_of_good limit (48 ∷ []) refl (omega arith)

zero_before : (limit d : ℕ) (word : List ℕ) → decimal_value limit (48 ∷ d ∷ word) ≡ None
zero_before limit d word = let more : ltb 0 (length (d ∷ word)) ≡ true = grind (arith, nat_tests) in rw more refl

-- a 0 in front of another byte than a separator is no number
zero_onto : (limit d : ℕ) (parts : List (List ℕ)) → first_of limit (onto_first 48 (onto_first d parts)) ≡ None
zero_onto limit d [] = ap (λ (o : Option ℕ). o >>= λ n. Some (n, [])) (zero_before limit d [])
zero_onto limit d (word ∷ rest) = ap (λ (o : Option ℕ). o >>= λ n. Some (n, rest)) (zero_before limit d word)

zero_front : (s limit : ℕ) (cs : List ℕ) → is_ascii_digit s ≡ false → first_of limit (parts_at s (48 ∷ cs)) ≡ parts_behind s (number_front limit (48 ∷ cs))
zero_front s limit [] apart = rw (no_separator s 48 apart refl, zero_is limit) refl
zero_front s limit (d ∷ ds) apart =
    elim (either_way (eqb d s)) [
      | inl ends ↦ rw (no_separator s 48 apart refl, ends, zero_is limit) refl
      | inr another ↦ rw (no_separator s 48 apart refl, another) (zero_onto limit d (parts_at s ds))
    ]

no_zero : (limit c : ℕ) (word : List ℕ) → eqb c 48 ≡ false → decimal_value limit (c ∷ word) ≡ digits_of limit (c ∷ word)
no_zero limit c word e = rw e refl

digits_behind : (limit c : ℕ) (word : List ℕ) → is_ascii_digit c ≡ true → digits_of limit (c ∷ word) ≡ digits_on limit (c - 48) word
unfolding digits_of
digits_behind limit c word digit =
    let same : 10 * 0 + (c - 48) ≡ c - 48 = omega arith in
    one_digit limit 0 c word digit ∙ ap (λ (n : ℕ). digits_on limit n word) same

digit_front : (s limit c : ℕ) (cs : List ℕ) → is_ascii_digit s ≡ false → eqb c 48 ≡ false → is_ascii_digit c ≡ true
    → first_of limit (parts_at s (c ∷ cs)) ≡ parts_behind s (number_front limit (c ∷ cs))
digit_front s limit c cs apart e digit =
    elim (cases_lt limit (c - 48)) [
      | inl large ↦
          let no : leb (c - 48) limit ≡ false = grind (arith, nat_tests) in
          rw (e, digit, no, no_separator s c apart digit) (none_first limit c (parts_at s cs) (λ word. no_zero limit c word e
          ∙ digits_of_large limit (c ∷ word) (omega (arith, value_from-ge (10 * 0 + (c - 48)) word))))
      | inr small ↦
          let yes : leb (c - 48) limit ≡ true = grind (arith, nat_tests) in
          rw (e, digit, yes, no_separator s c apart digit) (first_is_read limit (onto_first c (parts_at s cs))
          ∙ read_onto c (digits_on limit (c - 48)) (decimal_value limit) (parts_at s cs) (some_parts s cs)
          (λ word. no_zero limit c word e ∙ digits_behind limit c word digit) ∙ sym (on_is_first s limit (c - 48) cs apart small))
    ]

other_front : (s limit c : ℕ) (cs : List ℕ) → eqb c 48 ≡ false → is_ascii_digit c ≡ false
    → first_of limit (parts_at s (c ∷ cs)) ≡ parts_behind s (number_front limit (c ∷ cs))
other_front s limit c cs e other =
    elim (either_way (eqb c s)) [
      | inl ends ↦ rw (e, other, ends) refl
      | inr another ↦
          rw (e, other, another) (none_first limit c (parts_at s cs) (λ word. no_zero limit c word e
          ∙ digits_of_undigit limit (c ∷ word) (rw other refl)))
    ]

pub front_is_first : (s limit : ℕ) (text : List ℕ) → is_ascii_digit s ≡ false → first_of limit (parts_at s text) ≡ parts_behind s (number_front limit text)
front_is_first s limit [] apart = refl
front_is_first s limit (c ∷ cs) apart =
    elim (either_way (eqb c 48)) [
      | inl zero ↦ let same : c ≡ 48 = grind (arith, nat_tests) in rw same (zero_front s limit cs apart)
      | inr e ↦
          elim (either_way (is_ascii_digit c)) [
            | inl digit ↦ digit_front s limit c cs apart e digit
            | inr other ↦ other_front s limit c cs e other
          ]
    ]

-- ---- a text behind the number

pub separator_behind : (s limit n : ℕ) (text rest : List ℕ) → number_front limit text ≡ Some (n, rest) → 0 < length rest → get_or rest 0 0 ≡ s
    → is_ascii_digit s ≡ false → first_of limit (parts_at s text) ≡ Some (n, parts_at s (take (length rest - 1) (drop 1 rest)))
separator_behind s limit n text [] e some ends apart = absurd (omega arith)
separator_behind s limit n text (c ∷ cs) e some ends apart =
    let is : eqb c s ≡ true = grind (arith, nat_tests) in
    let all : take (length (c ∷ cs) - 1) cs ≡ cs = take_all (length (c ∷ cs) - 1) cs (omega arith) in
    front_is_first s limit text apart ∙ ap (parts_behind s) e ∙ rw (is, all) refl

abbrev pub paired : List (List ℕ) → Option ℕ → Option (ℕ × List (List ℕ))
paired rest o = o >>= λ n. Some (n, rest)

abbrev no_parts : List (List ℕ)
no_parts = []

abbrev many : Option (ℕ × List (List ℕ)) → ℕ
many None = 0
many (Some p) = length p.1

-- as many parts stand behind the first as are found behind its number
same_many : (n : ℕ) (rest found : List (List ℕ)) (o : Option ℕ) → paired rest o ≡ Some (n, found) → length rest ≡ length found
same_many n rest found None e = absurd cc
same_many n rest found (Some k) e = ap many e

-- the one part is not followed by others
no_others : (s n : ℕ) (behind : List ℕ) (o : Option ℕ) → paired no_parts o ≡ Some (n, parts_at s behind) → ⊥
no_others s n behind o e = omega (arith, same_many n no_parts (parts_at s behind) o e, some_parts s behind)

pub field_behind : (s limit n : ℕ) (behind : List ℕ) (parts : List (List ℕ)) → first_of limit parts ≡ Some (n, parts_at s behind)
    → field_of limit parts ≡ Some (n, parts_at s behind)
field_behind s limit n behind [] e = absurd cc
field_behind s limit n behind (word ∷ []) e = absurd (no_others s n behind (decimal_value limit word) e)
field_behind s limit n behind (word ∷ next ∷ rest) e = e

-- the number of a part that the separator ends
pub part_behind : (s limit n : ℕ) (text rest : List ℕ) → number_front limit text ≡ Some (n, rest) → 0 < length rest → get_or rest 0 0 ≡ s
    → is_ascii_digit s ≡ false → field_of limit (parts_at s text) ≡ Some (n, parts_at s (take (length rest - 1) (drop 1 rest)))
part_behind s limit n text rest e some ends apart = field_behind s limit n (take (length rest - 1) (drop 1 rest)) (parts_at s text)
    (separator_behind s limit n text rest e some ends apart)

no_field : (limit : ℕ) (parts : List (List ℕ)) → first_of limit parts ≡ None → field_of limit parts ≡ None
no_field limit [] e = refl
no_field limit (word ∷ []) e = refl
no_field limit (word ∷ next ∷ rest) e = e

-- the last part is none that another stands behind
last_part : (limit n : ℕ) (parts : List (List ℕ)) → first_of limit parts ≡ Some (n, no_parts) → field_of limit parts ≡ None
last_part limit n [] e = refl
last_part limit n (word ∷ []) e = refl
last_part limit n (word ∷ next ∷ rest) e = absurd (omega (arith, same_many n (next ∷ rest) no_parts (decimal_value limit word) e))

-- a number that no separator ends has no part behind it
pub none_behind : (s limit n : ℕ) (text rest : List ℕ) → number_front limit text ≡ Some (n, rest) → (0 < length rest → get_or rest 0 0 ≡ s → ⊥)
    → is_ascii_digit s ≡ false → field_of limit (parts_at s text) ≡ None
none_behind s limit n text [] e other apart = last_part limit n (parts_at s text) (front_is_first s limit text apart ∙ ap (parts_behind s) e)
none_behind s limit n text (c ∷ cs) e other apart =
    let no : eqb c s ≡ false = no_test (eqb c s) (λ is. other (omega arith) (eqb-true c s is)) in
    no_field limit (parts_at s text) (front_is_first s limit text apart ∙ ap (parts_behind s) e ∙ rw no refl)

pub no_front : (s limit : ℕ) (text : List ℕ) → number_front limit text ≡ None → is_ascii_digit s ≡ false → field_of limit (parts_at s text) ≡ None
no_front s limit text e apart = no_field limit (parts_at s text) (front_is_first s limit text apart ∙ ap (parts_behind s) e)

pub one_more_field : (limit n : ℕ) (behind : List ℕ) (parts : List (List ℕ)) → first_of limit parts ≡ Some (n, parts_at 32 behind)
    → numbers_of (limit ∷ []) parts ≡ None
one_more_field limit n behind [] e = refl
one_more_field limit n behind (word ∷ []) e = absurd (no_others 32 n behind (decimal_value limit word) e)
one_more_field limit n behind (word ∷ next ∷ rest) e =
    elim (decimal_value limit word) as (λ o. (o >>= (λ m. numbers_of [] (next ∷ rest) >>= λ ns. Some (m ∷ ns))) ≡ None) [
      | None ↦ refl
      | Some m ↦ refl
    ]

-- ---- the first part, where another stands behind it

not_found : (rest : List (List ℕ)) (o : Option ℕ) → paired rest o ≡ None → o ≡ None
not_found rest (Some n) e = absurd cc
not_found rest None e = refl

-- a first part that is no number
pub no_number : (limit : ℕ) (word : List ℕ) (behind : List (List ℕ)) → field_of limit (word ∷ behind) ≡ None → 0 < length behind → decimal_value limit word ≡ None
no_number limit word [] e some = absurd (omega arith)
no_number limit word (next ∷ rest) e some = not_found (next ∷ rest) (decimal_value limit word) e
