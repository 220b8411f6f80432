-- Parts that were joined are found again.
use Rattle.std.proofs.Common.{◌≡◌, ℕ, ◌<◌, Bool, true, false, not, eqb, List, [], ◌∷◌, ◌++◌, length, refl, sym, ap, ◌∙◌, arith, rules}
use Rattle.std.specs.Char.{is_ascii_digit}
use Rattle.std.specs.List.{AllByRecursion, AllPass, All, list_all, join_with_byte}
use Rattle.std.specs.Str.{all_ascii_digits}
use Rattle.std.proofs.lemmas.Bool.{and_parts}
use Rattle.std.proofs.lemmas.Bool.Decides.{nat_tests}
use Rattle.std.proofs.lemmas.List.Folds.{list_all-append}
use Rattle.std.proofs.lemmas.List.Sums.{AllPass-from_list_all, list_all-from_AllPass}
use Rattle.std.proofs.lemmas.List.Splits.{length-slice_split, join_with_byte-slice_split, slice_split_none, slice_split_at}
use Rattle.text.specs.Parts.{parts_at}

-- the byte stands nowhere in the text
abbrev pub lacks : ℕ → List ℕ → Bool
lacks c text = list_all (λ b. not (eqb b c)) text

abbrev pub AllLack : ℕ → List (List ℕ) → Type 0
AllLack c texts = AllByRecursion (λ t. lacks c t ≡ true) texts

not_true : (b : Bool) → not b ≡ true → b ≡ false
not_true b h = search rules

lacks_all : (c : ℕ) (text : List ℕ) → lacks c text ≡ true → All (λ b. eqb b c ≡ false) text
lacks_all c text h = λ k d lt. not_true _ (AllPass-from_list_all (λ b. not (eqb b c)) text h k d lt)

-- a text has a part, if only an empty one
pub some_parts : (c : ℕ) (text : List ℕ) → 0 < length (parts_at c text)
some_parts c text = omega (arith, length-slice_split (λ b. eqb b c) text)

-- the parts of a text, joined again
pub parts_joined : (c : ℕ) (text : List ℕ) (parts : List (List ℕ)) → parts_at c text ≡ parts → text ≡ join_with_byte c parts
parts_joined c text parts e = sym (join_with_byte-slice_split c text) ∙ ap (join_with_byte c) e

-- joined texts, cut again
pub joined_parts : (c : ℕ) (x : List ℕ) (xs : List (List ℕ)) → AllLack c (x ∷ xs) → parts_at c (join_with_byte c (x ∷ xs)) ≡ x ∷ xs
joined_parts c x [] h = slice_split_none (λ b. eqb b c) x (lacks_all c x h.0)
joined_parts c x (y ∷ ys) h =
    let same : eqb c c ≡ true = grind (arith, nat_tests) in
    slice_split_at (λ b. eqb b c) x c (join_with_byte c (y ∷ ys)) (lacks_all c x h.0) same ∙ ap (λ (t : List (List ℕ)). x ∷ t) (joined_parts c y ys h.1)

-- bytes of a kind that c is not of differ from c
differs : (p : ℕ → Bool) (b c : ℕ) (t : Bool) → t ≡ eqb b c → p b ≡ true → p c ≡ false → not t ≡ true
differs p b c t e pb pc = search rules

pub lacks_passing : (p : ℕ → Bool) (c : ℕ) (text : List ℕ) → AllPass p text → p c ≡ false → lacks c text ≡ true
lacks_passing p c text h pc = list_all-from_AllPass (λ b. not (eqb b c)) text (λ k d lt. differs p _ c _ refl (h k d lt) pc)

pub lacks_digits : (c : ℕ) (word : List ℕ) → all_ascii_digits word ≡ true → is_ascii_digit c ≡ false → lacks c word ≡ true
lacks_digits c [] h pc = refl
lacks_digits c (d ∷ ds) h pc =
    let parts = and_parts (is_ascii_digit d) (all_ascii_digits ds) h in
    rw (differs is_ascii_digit d c _ refl parts.0 pc, lacks_digits c ds parts.1 pc) refl

pub lacks_append : (c : ℕ) (x y : List ℕ) → lacks c x ≡ true → lacks c y ≡ true → lacks c (x ++ y) ≡ true
lacks_append c x y h k = list_all-append (λ b. not (eqb b c)) x y ∙ rw (h, k) refl

-- what joins texts that lack c with another byte lacks c
pub lacks_joined : (c d : ℕ) (x : List ℕ) (xs : List (List ℕ)) → eqb d c ≡ false → AllLack c (x ∷ xs) → lacks c (join_with_byte d (x ∷ xs)) ≡ true
lacks_joined c d x [] e h = h.0
lacks_joined c d x (y ∷ ys) e h = lacks_append c x (d ∷ join_with_byte d (y ∷ ys)) h.0 (rw (e, lacks_joined c d y ys e h.1) refl)
