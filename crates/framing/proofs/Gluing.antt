-- Bytes that arrive in pieces have the lines that they have as a whole.
use Rattle.std.proofs.Common.{◌≡◌, ℕ, ◌<◌, Bool, cond, eqb, List, [], ◌∷◌, ◌++◌, length, refl, sym, ap, ◌∙◌, rules}
use Rattle.std.specs.List.{onto_first}
use Rattle.text.specs.Parts.{parts_at}
use Rattle.framing.specs.Lines.{glued}
use Rattle.text.proofs.Split.{some_parts}

pub glued_none : (parts : List (List ℕ)) → glued [] parts ≡ parts
glued_none parts = search rules

-- the parts of two pieces of a text, of which the last of the first and the first of the second are one
onto_last : List (List ℕ) → List (List ℕ) → List (List ℕ)
onto_last [] parts = parts
onto_last (part ∷ []) parts = glued part parts
onto_last (part ∷ next ∷ rest) parts = part ∷ onto_last (next ∷ rest) parts

one_byte_more : (b : Bool) (x : ℕ) (P Q : List (List ℕ)) → 0 < length P → 0 < length Q
    → cond b ([] ∷ onto_last P Q) (onto_first x (onto_last P Q)) ≡ onto_last (cond b ([] ∷ P) (onto_first x P)) Q
unfolding onto_last
one_byte_more b x P Q some also = search rules

parts_more : (c : ℕ) (xs ys : List ℕ) → parts_at c (xs ++ ys) ≡ onto_last (parts_at c xs) (parts_at c ys)
unfolding onto_last
parts_more c [] ys = sym (glued_none (parts_at c ys))
parts_more c (x ∷ xs) ys =
    ap (λ (ps : List (List ℕ)). cond (eqb x c) ([] ∷ ps) (onto_first x ps)) (parts_more c xs ys)
    ∙ one_byte_more (eqb x c) x (parts_at c xs) (parts_at c ys) (some_parts c xs) (some_parts c ys)

onto_last_is : (done : List (List ℕ)) (part : List ℕ) (parts : List (List ℕ)) → onto_last (done ++ part ∷ []) parts ≡ done ++ glued part parts
unfolding onto_last
onto_last_is [] part parts = refl
onto_last_is (d ∷ []) part parts = refl
onto_last_is (d ∷ e ∷ es) part parts = ap (λ (ps : List (List ℕ)). d ∷ ps) (onto_last_is (e ∷ es) part parts)

-- more bytes go on with the last part
pub parts_go_on : (c : ℕ) (text more : List ℕ) (done : List (List ℕ)) (part : List ℕ) → parts_at c text ≡ done ++ part ∷ []
    → parts_at c (text ++ more) ≡ done ++ glued part (parts_at c more)
parts_go_on c text more done part h = search (rules, parts_more, onto_last_is)
