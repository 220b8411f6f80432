-- Lists of what may be there.
use Rattle.std.proofs.Common.{◌≡◌, ℕ, suc, ◌<◌, List, [], ◌∷◌, ◌++◌, length, map, take, append_assoc, Option, Some, None, refl, sym, ap, ◌∙◌, arith}
use Rattle.std.specs.Prelude.{slice_index_or}
use Rattle.std.proofs.lemmas.List.{map-append, take_at}

-- where all of a list are there, the next one is
next_there : {X : Type 0} (ys all : List X) (x : Option X) (xs : List (Option X)) → map Some ys ++ x ∷ xs ≡ map Some all → (y : X) × (x ≡ Some y)
next_there [] [] x xs e = absurd cc
next_there [] (a ∷ all) x xs e = (a, cc)
next_there (y ∷ ys) [] x xs e = absurd cc
next_there (y ∷ ys) (a ∷ all) x xs e = next_there ys all x xs cc

no_none : {Y : Type 0} (x : Option Y) (y : Y) → x ≡ Some y → x ≡ None → ⊥
no_none None y e n = cc
no_none (Some z) y e n = cc

-- where all are there, the next one is not missing
pub none_missing : {X Y : Type 0} (folds all : List Y) (x : X) (rest rest' slots : List X) (f : X → Option Y) → map Some folds ++ map f rest ≡ map f slots → rest ≡ x ∷ rest' → map f slots ≡ map Some all → f x ≡ None → ⊥
none_missing folds all x rest rest' slots f done is there none =
    let e : map Some folds ++ f x ∷ map f rest' ≡ map Some all = ap (λ xs. map Some folds ++ map f xs) (sym is) ∙ (done ∙ there) in
    let next = next_there folds all (f x) (map f rest') e in
    no_none (f x) next.0 next.1 none

-- one more is there
pub one_more_there : {X Y : Type 0} (folds folds' : List Y) (x : X) (rest rest' slots : List X) (y : Y) (f : X → Option Y) → map Some folds ++ map f rest ≡ map f slots → rest ≡ x ∷ rest' → f x ≡ Some y → folds' ≡ folds ++ y ∷ []
    → map Some folds' ++ map f rest' ≡ map f slots
one_more_there folds folds' x rest rest' slots y f done is there more =
    ap (λ ys. map Some ys ++ map f rest') more ∙ (ap (λ ys. ys ++ map f rest') (map-append (λ z. Some z) folds (y ∷ [])) ∙ (append_assoc (map Some folds) (Some y ∷ []) (map f rest')
    ∙ (ap (λ o. map Some folds ++ o ∷ map f rest') (sym there) ∙ (ap (λ xs. map Some folds ++ map f xs) (sym is) ∙ done))))

-- what is there is the list
pub there_same : {X : Type 0} (xs ys : List X) → map Some xs ≡ map Some ys → xs ≡ ys
there_same [] [] e = refl
there_same [] (y ∷ ys) e = absurd cc
there_same (x ∷ xs) [] e = absurd cc
there_same (x ∷ xs) (y ∷ ys) e =
    let head : x ≡ y = cc in
    let rest : map Some xs ≡ map Some ys = cc in
    let tail = there_same xs ys rest in
    ap (λ z. z ∷ xs) head ∙ ap (λ zs. y ∷ zs) tail

-- what each was made of
pub changed_map : {X Z : Type 0} (xs ys : List X) (f h : X → Z) → length ys ≡ length xs → ((i : ℕ) (d : X) → i < length xs → f (slice_index_or ys i d) ≡ h (slice_index_or xs i d)) → map f ys ≡ map h xs
changed_map [] [] f h len e = refl
changed_map [] (y ∷ ys) f h len e = absurd (omega (arith, len))
changed_map (x ∷ xs) [] f h len e = absurd (omega (arith, len))
changed_map (x ∷ xs) (y ∷ ys) f h len e =
    let head : f y ≡ h x = e 0 x (omega arith) in
    let tail = changed_map xs ys f h (omega (arith, len)) (λ i d lt. e (suc i) d (omega (arith, lt))) in
    ap (λ z. z ∷ map f ys) head ∙ ap (λ zs. h x ∷ zs) tail

-- the same of a list that is a prefix of another
pub front_map : {X Z : Type 0} (xs rest : List X) (n : ℕ) (f : X → Z) (zs : List Z) → length xs ≡ n → map f xs ≡ zs → map f (take n (xs ++ rest)) ≡ zs
front_map xs rest n f zs len is = ap (λ ys. map f ys) (take_at xs rest n len) ∙ is
