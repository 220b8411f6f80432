-- Texts in two, the first of which ends in a separator.
use Rattle.std.proofs.Common.{◌≡◌, ℕ, suc, ◌+◌, ◌<◌, Bool, true, false, eqb, List, [], ◌∷◌, ◌++◌, length, get_or, take, drop, length-drop, Some, refl, sym, ap, ◌∙◌, arith}
use Rattle.std.specs.Prelude.{position}
use Rattle.std.specs.List.{onto_first}
use Rattle.std.proofs.Math.Seq.{take-suc}
use Rattle.std.proofs.lemmas.Bool.Decides.{nat_tests}
use Rattle.std.proofs.lemmas.List.{take-append-drop, get_or-drop}
use Rattle.std.proofs.lemmas.List.Quantifiers.{position-Some}
use Rattle.std.proofs.lemmas.List.Splits.{slice_split-cons_yes, slice_split-cons_no}
use Rattle.text.specs.Parts.{parts_at, IsCutBehind}
use Rattle.text.proofs.Split.{some_parts}

is_byte : (b c : ℕ) → eqb b c ≡ true → b ≡ c
is_byte b c h = grind (arith, nat_tests)

-- a text that is cut behind the first separator of what follows its first bytes
pub cut_behind : (c : ℕ) (text front behind : List ℕ) (from at : ℕ) → position (λ b. eqb b c) (drop from text) ≡ Some at
    → front ≡ take (from + at + 1) text → behind ≡ drop (from + at + 1) text → IsCutBehind c text front behind
cut_behind c text front behind from at found first second =
    let there = position-Some (λ b. eqb b c) (drop from text) at 0 found in
    let lt : from + at < length text = omega (arith, length-drop from text, there.0) in
    let byte : get_or text (from + at) 0 ≡ c = sym (get_or-drop from text at 0) ∙ is_byte (get_or (drop from text) at 0) c there.1 in
    let next : from + at + 1 ≡ suc (from + at) = omega arith in
    let last : take (from + at + 1) text ≡ take (from + at) text ++ c ∷ [] =
    ap (λ (n : ℕ). take n text) next ∙ (take-suc text (from + at) 0 lt ∙ ap (λ (b : ℕ). take (from + at) text ++ b ∷ []) byte) in
    record {
      whole = sym (take-append-drop (from + at + 1) text) ∙ (ap (λ (t : List ℕ). t ++ drop (from + at + 1) text) (sym first) ∙ ap (λ (t : List ℕ). front ++ t) (sym second));
      before = take (from + at) text;
      ends = first ∙ last;
    }

-- ---- parts

onto_first_of_more : (b : ℕ) (xs ys : List (List ℕ)) → 0 < length xs → onto_first b (xs ++ ys) ≡ onto_first b xs ++ ys
onto_first_of_more b [] ys some = absurd (omega arith)
onto_first_of_more b (x ∷ xs) ys some = refl

parts_of_byte : (c b : ℕ) (front behind : List ℕ) (t : Bool) → t ≡ eqb b c → parts_at c (front ++ c ∷ behind) ≡ parts_at c front ++ parts_at c behind
    → parts_at c (b ∷ (front ++ c ∷ behind)) ≡ parts_at c (b ∷ front) ++ parts_at c behind
parts_of_byte c b front behind true is parts =
    slice_split-cons_yes (λ x. eqb x c) b (front ++ c ∷ behind) (sym is) ∙ ap (λ (ps : List (List ℕ)). [] ∷ ps) parts
    ∙ ap (λ (ps : List (List ℕ)). ps ++ parts_at c behind) (sym (slice_split-cons_yes (λ x. eqb x c) b front (sym is)))
parts_of_byte c b front behind false is parts =
    slice_split-cons_no (λ x. eqb x c) b (front ++ c ∷ behind) (sym is) ∙ ap (onto_first b) parts
    ∙ onto_first_of_more b (parts_at c front) (parts_at c behind) (some_parts c front)
    ∙ ap (λ (ps : List (List ℕ)). ps ++ parts_at c behind) (sym (slice_split-cons_no (λ x. eqb x c) b front (sym is)))

-- the parts of what is before a separator, and of what is behind it
pub parts_around : (c : ℕ) (before behind : List ℕ) → parts_at c (before ++ c ∷ behind) ≡ parts_at c before ++ parts_at c behind
parts_around c [] behind =
    let same : eqb c c ≡ true = grind (arith, nat_tests) in
    slice_split-cons_yes (λ x. eqb x c) c behind same
parts_around c (b ∷ before) behind = parts_of_byte c b before behind (eqb b c) refl (parts_around c before behind)
