-- Words and numbers in a row.
use Rattle.std.proofs.Common.{◌≡◌, ℕ, List, [], ◌∷◌, ◌++◌, refl, ap, ◌∙◌, append-nil, append_assoc}
use Rattle.std.specs.Prelude.{codes}
use Rattle.std.specs.Borrow.{Bor}
use Rattle.std.specs.Fmt.{decimal}
use Rattle.std.specs.List.{flat_map}
use Rattle.text.specs.Wording.{worded, worded_line, labelled}

pub worded_behind : (word numbers : List ℕ) → word ++ flat_map (λ n. 32 ∷ decimal n) numbers ≡ worded word numbers
worded_behind word [] = append-nil word
worded_behind word (n ∷ ns) = ap (λ (t : List ℕ). word ++ (32 ∷ t)) (worded_behind (decimal n) ns)

pub worded_ended : (word numbers : List ℕ) → worded word numbers ++ codes "\n" ≡ worded_line word numbers
worded_ended word [] = refl
worded_ended word (n ∷ ns) = append_assoc word (32 ∷ worded (decimal n) ns) (codes "\n") ∙ ap (λ (t : List ℕ). word ++ (32 ∷ t)) (worded_ended (decimal n) ns)

pub labels_in_row : (numbers : List (Bor (List ℕ) × ℕ)) → flat_map (λ p. p.0.now ++ decimal p.1) numbers ≡ labelled numbers
labels_in_row [] = refl
labels_in_row (p ∷ []) = append-nil (p.0.now ++ decimal p.1)
labels_in_row (p ∷ q ∷ ps) = append_assoc p.0.now (decimal p.1) (flat_map (λ r. r.0.now ++ decimal r.1) (q ∷ ps))
    ∙ ap (λ (t : List ℕ). p.0.now ++ (decimal p.1 ++ t)) (labels_in_row (q ∷ ps))
