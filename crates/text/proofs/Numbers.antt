-- Digits and their value.
use Rattle.std.proofs.Common.{◌≡◌, ℕ, ◌+◌, ◌-◌, ◌*◌, ◌^◌, ◌<◌, ◌≤◌, Bool, true, false, cond, ◌&&◌, eqb, ltb, leb, List, [], ◌∷◌, length, get_or, drop, Option, Some, None, refl, sym, arith, rules}
use Rattle.std.specs.Str.{all_ascii_digits}
use Rattle.std.specs.Char.{is_ascii_digit}
use Rattle.std.proofs.lemmas.Option.{cond_some}
use Rattle.std.proofs.lemmas.Bool.Decides.{nat_tests}
use Rattle.std.specs.Fmt.{decimal}
use Rattle.std.proofs.lemmas.Str.Parse.{IsNumeralModel, numerals_by_fold}
use Rattle.std.proofs.lemmas.Fmt.{decimal-digits_value, digits_decimal, digits_value-decimal, decimal_nonempty, first_decimal, decimal_digit}
use Rattle.std.proofs.lemmas.Grind.{common_steps}
use Rattle.text.specs.Number.{value_from, digits_of, decimal_value}
use Rattle.text.specs.Laws.{NumbersAreDecimals}
use Rattle.text.proofs.Split.{lacks, lacks_digits}

pub model : IsNumeralModel (λ ds. all_ascii_digits ds ≡ true) (value_from 0)
model = numerals_by_fold _ (search rules) value_from (search rules)

-- a number only grows by more digits
pub value_from-ge : (n : ℕ) (ds : List ℕ) → n ≤ value_from n ds
value_from-ge n [] = omega arith
value_from-ge n (c ∷ cs) = omega (arith, value_from-ge (10 * n + (c - 48)) cs)

pub digits_of_undigit : (limit : ℕ) (word : List ℕ) → all_ascii_digits word ≡ false → digits_of limit word ≡ None
unfolding digits_of
digits_of_undigit limit word e = grind (arith, common_steps)

pub digits_of_large : (limit : ℕ) (word : List ℕ) → limit < value_from 0 word → digits_of limit word ≡ None
unfolding digits_of
digits_of_large limit word e = grind (arith, common_steps)

pub digits_of_good : (limit : ℕ) (word : List ℕ) → all_ascii_digits word ≡ true → value_from 0 word ≤ limit → digits_of limit word ≡ Some (value_from 0 word)
unfolding digits_of
digits_of_good limit word d l = grind (arith, common_steps)

-- what a loop over the word meets at its place i
pub undigit_at : (word : List ℕ) (i : ℕ) → i < length word → is_ascii_digit (get_or word i 0) ≡ false → all_ascii_digits (drop i word) ≡ false
undigit_at word i lt e = grind (arith, common_steps)

pub value_at : (n : ℕ) (word : List ℕ) (i : ℕ) → i < length word → value_from n (drop i word) ≡ value_from (10 * n + (get_or word i 0 - 48)) (drop (i + 1) word)
value_at n word i lt = grind (arith, common_steps)

pub none_or : (b : Bool) (o : Option ℕ) (n : ℕ) → cond b None o ≡ Some n → (b ≡ false) × (o ≡ Some n)
none_or b o n e = search rules

number_from_word : (limit n : ℕ) (word : List ℕ) → limit < 2 ^ 64 → decimal_value limit word ≡ Some n → (word ≡ decimal n) × (n ≤ limit)
unfolding digits_of
number_from_word limit n [] lt e = absurd cc
number_from_word limit n (d ∷ ds) lt e =
    let word : List ℕ = d ∷ ds in
    let outer : ((eqb d 48 && ltb 0 (length ds)) ≡ false) × (digits_of limit word ≡ Some n) = none_or (eqb d 48 && ltb 0 (length ds))
    (digits_of limit word) n e in
    let parts = cond_some (all_ascii_digits word && leb (value_from 0 word) limit) (value_from 0 word) n outer.1 in
    let all : all_ascii_digits word ≡ true = grind (arith, nat_tests, parts.0) in
    let lead : d ≡ 48 → length word ≡ 1 = λ z. grind (arith, nat_tests, outer.0, z) in
    let le : value_from 0 word ≤ limit = grind (arith, nat_tests, parts.0) in
    let same = decimal-digits_value model word all (omega arith) lead (omega arith) in
    (rw (← parts.1) (sym same), rw (← parts.1) le)

lead_of : (n : ℕ) (word : List ℕ) → n < 2 ^ 64 → word ≡ decimal n → 1 < length word → get_or word 0 0 ≡ 48 → ⊥
lead_of n word small e long z = search (rules, decimal_digit, first_decimal)

decimal_value_good : (limit : ℕ) (word : List ℕ) → 0 < length word → (1 < length word → get_or word 0 0 ≡ 48 → ⊥)
    → decimal_value limit word ≡ digits_of limit word
decimal_value_good limit word some lead = search rules

number_from_decimal : (limit n : ℕ) (word : List ℕ) → limit < 2 ^ 64 → word ≡ decimal n → n ≤ limit → decimal_value limit word ≡ Some n
number_from_decimal limit n word lt e le =
    search (rules, digits_decimal, model, digits_value-decimal, decimal_nonempty, decimal_value_good, lead_of, digits_of_good)

pub numbers_are_decimals : NumbersAreDecimals
numbers_are_decimals limit n word lt = (number_from_word limit n word lt, λ h. number_from_decimal limit n word lt h.0 h.1)

-- a decimal is read
pub decimal_is_read : (limit n : ℕ) → limit < 2 ^ 64 → n ≤ limit → decimal_value limit (decimal n) ≡ Some n
decimal_is_read limit n lt le = number_from_decimal limit n (decimal n) lt refl le

-- a decimal has no other byte than digits
pub lacks_decimal : (c n : ℕ) → n < 2 ^ 64 → is_ascii_digit c ≡ false → lacks c (decimal n) ≡ true
lacks_decimal c n small pc = lacks_digits c (decimal n) (digits_decimal model n small) pc

-- no number of a text is larger: all are of 48 bits
abbrev pub largest : ℕ
largest = 281474976710655

pub lacks_space : (n : ℕ) → n ≤ largest → lacks 32 (decimal n) ≡ true
lacks_space n le = lacks_decimal 32 n (omega arith) refl
