-- The requests to each node, one node after another.
use Rattle.std.proofs.Common.{◌≡◌, ℕ, zero, suc, ◌+◌, ◌<◌, ◌≤◌, List, [], ◌∷◌, ◌++◌, length, take, Option, Some, None, slice_index_or, refl, sym, ap, ◌∙◌, append_assoc, add-one, arith}
use Rattle.std.proofs.lemmas.List.{append-nil, take_more, length-take-le}
use Rattle.volume.specs.declared.actions.Action.{Action}
use Rattle.volume.specs.declared.errands.Errand.{Errand}
use Rattle.volume.specs.declared.errands.Query.{Query}
use Rattle.volume.specs.Asking.{asks_of, asks_from, asks_at, queries_from, query_to}

-- ---- errands
-- one node more
asks_more : (generation : ℕ) (e : Errand) (first : ℕ) (births : List (Option ℕ)) (birth : Option ℕ)
    → asks_from generation e first (births ++ birth ∷ []) ≡ asks_from generation e first births ++ asks_at generation e (first + length births) birth
asks_more generation e first [] None = refl
asks_more generation e first [] (Some birth) =
    let same : first ≡ first + 0 = omega arith in
    ap (λ n. asks_of n generation birth e ++ []) same ∙ append-nil (asks_of (first + 0) generation birth e)
asks_more generation e first (None ∷ births) birth =
    let same : first + 1 + length births ≡ first + suc (length births) = omega arith in
    asks_more generation e (first + 1) births birth
    ∙ ap (λ n. asks_from generation e (first + 1) births ++ asks_at generation e n birth) same
asks_more generation e first (Some b ∷ births) birth =
    let same : first + 1 + length births ≡ first + suc (length births) = omega arith in
    ap (λ xs. asks_of first generation b e ++ xs) (asks_more generation e (first + 1) births birth
    ∙ ap (λ n. asks_from generation e (first + 1) births ++ asks_at generation e n birth) same)
    ∙ sym (append_assoc (asks_of first generation b e) (asks_from generation e (first + 1) births) (asks_at generation e (first + suc (length births)) birth))

pub one_asked_more : (old now new : List Action) (generation : ℕ) (e : Errand) (births : List (Option ℕ)) (i : ℕ) → i < length births
    → now ≡ old ++ asks_from generation e 0 (take i births) → new ≡ now ++ asks_at generation e i (slice_index_or births i None)
    → new ≡ old ++ asks_from generation e 0 (take (i + 1) births)
one_asked_more old now new generation e births i lt before here =
    let b : Option ℕ = slice_index_or births i None in
    let within : i ≤ length births = omega arith in
    let long : length (take i births) ≡ i = length-take-le i births within in
    let at : 0 + length (take i births) ≡ i = omega arith in
    let all : asks_from generation e 0 (take (i + 1) births) ≡ asks_from generation e 0 (take i births) ++ asks_at generation e i b =
    ap (λ xs. asks_from generation e 0 xs) (take_more births i None lt) ∙ asks_more generation e 0 (take i births) b
    ∙ ap (λ n. asks_from generation e 0 (take i births) ++ asks_at generation e n b) at in
    here ∙ ap (λ xs. xs ++ asks_at generation e i b) before
    ∙ append_assoc old (asks_from generation e 0 (take i births)) (asks_at generation e i b)
    ∙ ap (λ xs. old ++ xs) (sym all)

-- ---- queries
queries_more : (q : Query) (first count : ℕ) → queries_from q first (suc count) ≡ queries_from q first count ++ query_to q (first + count)
queries_more q first zero =
    let same : first ≡ first + 0 = omega arith in ap (λ n. query_to q n) same
queries_more q first (suc count) =
    let same : first + 1 + count ≡ first + suc count = omega arith in
    ap (λ xs. query_to q first ++ xs) (queries_more q (first + 1) count
    ∙ ap (λ n. queries_from q (first + 1) count ++ query_to q n) same)

pub one_queried_more : (now new : List Action) (q : Query) (n : ℕ) → now ≡ queries_from q 0 n → new ≡ now ++ query_to q n
    → new ≡ queries_from q 0 (n + 1)
one_queried_more now new q n before here =
    let same : n ≡ 0 + n = omega arith in
    here ∙ ap (λ xs. xs ++ query_to q n) before ∙ ap (λ m. queries_from q 0 n ++ query_to q m) same
    ∙ sym (queries_more q 0 n) ∙ ap (λ m. queries_from q 0 m) (sym (add-one n))
