-- The first part of a text.
use Rattle.std.proofs.Common.{◌≡◌, ℕ, ◌+◌, ◌<◌, Bool, true, false, cond, eqb, ltb, List, [], ◌∷◌, length, get_or, take, drop, Option, Some, None, arith, rules}
use Rattle.std.specs.Prelude.{position}
use Rattle.std.specs.List.{position_or_len}
use Rattle.std.proofs.lemmas.List.Splits.{slice_split_first, slice_split_none}
use Rattle.std.proofs.lemmas.List.Sums.{fails_before_first, position_or_len_is}
use Rattle.memchr.specs.Find.{IsFirstByte, is_byte}
use Rattle.std.proofs.lemmas.Bool.Decides.{nat_tests}
use Rattle.text.specs.Parts.{parts_at}
use Rattle.text.proofs.Options.{no_test}

absent : (b : Bool) (q : ℕ) → b ≡ false → None ≡ cond b (Some q) None
absent b q h = cc

present : (b : Bool) (q k : ℕ) → b ≡ true → q ≡ k → Some k ≡ cond b (Some q) None
present b q k h e = cc

-- the place that a search for a byte finds
pub first_is : (c : ℕ) (text : List ℕ) (r : Option ℕ) → IsFirstByte (is_byte c) text r → r ≡ position (λ b. eqb b c) text
first_is c text None h =
    let first = position_or_len (λ b. eqb b c) text in
    let at : first ≡ length text = position_or_len_is (λ b. eqb b c) text (length text) 0 (omega arith)
    (λ k lt. no_test (eqb (get_or text k 0) c) (h k (omega arith) lt)) (λ lt. absurd (omega (arith, lt))) in
    let none : ltb first (length text) ≡ false = grind (arith, nat_tests, at) in
    absent (ltb first (length text)) first none
first_is c text (Some k) h =
    let first = position_or_len (λ b. eqb b c) text in
    let within : k < length text = h.0.high in
    let at : first ≡ k = position_or_len_is (λ b. eqb b c) text k 0 (omega (arith, within))
    (λ j lt. no_test (eqb (get_or text j 0) c) (h.0.before j (omega arith) lt)) (λ lt. h.1) in
    let some : ltb first (length text) ≡ true = grind (arith, nat_tests, at, within) in
    present (ltb first (length text)) first k some at

-- with the separator at this place, the first part ends there
pub parted_at : (c : ℕ) (text : List ℕ) (at : ℕ) → position (λ b. eqb b c) text ≡ Some at
    → (at < length text) × (parts_at c text ≡ take at text ∷ parts_at c (drop (at + 1) text))
parted_at c text at h = search (rules, slice_split_first)

-- with no separator the text is one part
pub not_parted : (c : ℕ) (text : List ℕ) → position (λ b. eqb b c) text ≡ None → parts_at c text ≡ text ∷ []
not_parted c text h = search (rules, slice_split_none, fails_before_first)
