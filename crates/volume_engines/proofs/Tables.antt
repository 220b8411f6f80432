-- Tables by node, and how many nodes a set has.
use Rattle.std.proofs.Common.{◌≡◌, ◌≢◌, ℕ, zero, suc, ◌+◌, ◌<◌, ◌≤◌, ◌⊎◌, ⊎_elim, inl, inr, List, [], ◌∷◌, length, Bool, true, false, Option, Some, None, refl, sym, ◌∙◌, ap, arith, cond, slice_index_or, get_or-set_same, get_or-set_other}
use Rattle.std.proofs.lemmas.List.Sums.{sum_by-cons}
use Rattle.std.specs.Prelude.{slice_set, replicate}
use Rattle.volume.specs.Sets.{birth_at, is_marked, marks_of, count_marked, no_nodes}
use Rattle.volume_theorems.specs.Quorums.{one_if, size_below}

-- ---- entries
pub at_or_not : (i j : ℕ) → (i ≡ j) ⊎ (i ≢ j)
at_or_not i j = let which : (i ≡ j) ⊎ (i ≢ j) = grind arith in which

-- what a table has after one entry was put
pub put_there : {X : Type 0} (xs : List X) (node i : ℕ) (x d : X) → node < length xs → i ≡ node → slice_index_or (slice_set xs node x) i d ≡ x
put_there xs node i x d within same = ap (λ (k : ℕ). slice_index_or (slice_set xs node x) k d) same ∙ get_or-set_same xs node x d within

pub put_elsewhere : {X : Type 0} (xs : List X) (node i : ℕ) (x d : X) → i ≢ node → slice_index_or (slice_set xs node x) i d ≡ slice_index_or xs i d
put_elsewhere xs node i x d apart = get_or-set_other xs node i x d apart

pub no_birth : (n i : ℕ) → birth_at (replicate n None) i ≡ None
no_birth zero i = refl
no_birth (suc n) zero = refl
no_birth (suc n) (suc i) = no_birth n i

pub some_same : {X : Type 0} (a b : X) → Some a ≡ Some b → a ≡ b
some_same a b same = cc

-- ---- marks
pub marked_has : (births : List (Option ℕ)) (i : ℕ) → is_marked (marks_of births) i ≡ true → (b : ℕ) × (birth_at births i ≡ Some b)
marked_has [] i marked = absurd (let no : false ≡ true = marked in cc)
marked_has (None ∷ births) zero marked = absurd (let no : false ≡ true = marked in cc)
marked_has (Some b ∷ births) zero marked = (b, refl)
marked_has (x ∷ births) (suc i) marked = marked_has births i marked

pub has_marked : (births : List (Option ℕ)) (i b : ℕ) → birth_at births i ≡ Some b → is_marked (marks_of births) i ≡ true
has_marked [] i b has = absurd (let no : None ≡ Some b = has in cc)
has_marked (None ∷ births) zero b has = absurd (let no : None ≡ Some b = has in cc)
has_marked (Some c ∷ births) zero b has = refl
has_marked (x ∷ births) (suc i) b has = has_marked births i b has

-- ---- sizes
size_first : (n : ℕ) (set : ℕ → Bool) → size_below (suc n) set ≡ one_if (set 0) + size_below n (λ i. set (suc i))
size_first zero set = refl
size_first (suc n) set =
    let more : size_below (suc n) set ≡ one_if (set 0) + size_below n (λ i. set (suc i)) = size_first n set in
    omega (arith, more)

count_first : (b : Bool) (marks : List Bool) → count_marked (b ∷ marks) ≡ one_if b + count_marked marks
count_first true marks = sum_by-cons (λ (b : Bool). cond b 1 0) true marks
count_first false marks = sum_by-cons (λ (b : Bool). cond b 1 0) false marks

-- a set of nodes below n has so many of them
pub marked_below : (marks : List Bool) (n : ℕ) → ((i : ℕ) → is_marked marks i ≡ true → i < n) → count_marked marks ≤ size_below n (λ i. is_marked marks i)
marked_below [] n below = let none : count_marked [] ≡ 0 = refl in omega arith
marked_below (true ∷ marks) zero below = absurd (let no : 0 < 0 = below 0 refl in omega arith)
marked_below (false ∷ marks) zero below =
    let first : count_marked (false ∷ marks) ≡ 0 + count_marked marks = count_first false marks in
    let rest : count_marked marks ≤ 0 = marked_below marks zero (λ i marked. absurd (let no : suc i < 0 = below (suc i) marked in omega arith)) in
    omega arith
marked_below (b ∷ marks) (suc n) below =
    let first : count_marked (b ∷ marks) ≡ one_if b + count_marked marks = count_first b marks in
    let rest : count_marked marks ≤ size_below n (λ i. is_marked marks i) =
    marked_below marks n (λ i marked. let under : suc i < suc n = below (suc i) marked in omega arith) in
    let top : size_below (suc n) (λ i. is_marked (b ∷ marks) i) ≡ one_if b + size_below n (λ i. is_marked marks i) =
    size_first n (λ i. is_marked (b ∷ marks) i) in
    omega arith

-- a set of no nodes
pub count_zero : (marks : List Bool) → count_marked marks ≡ 0 → (i : ℕ) → is_marked marks i ≡ true → ⊥
count_zero [] none i marked = let no : false ≡ true = marked in absurd (cc)
count_zero (true ∷ marks) none i marked =
    let first : count_marked (true ∷ marks) ≡ 1 + count_marked marks = count_first true marks in absurd (omega arith)
count_zero (false ∷ marks) none zero marked = let no : false ≡ true = marked in absurd (cc)
count_zero (false ∷ marks) none (suc i) marked =
    let first : count_marked (false ∷ marks) ≡ 0 + count_marked marks = count_first false marks in
    count_zero marks (omega arith) i marked

unmarked_all : (n i : ℕ) → is_marked (replicate n false) i ≡ false
unmarked_all zero i = refl
unmarked_all (suc n) zero = refl
unmarked_all (suc n) (suc i) = unmarked_all n i

pub none_marked : (i : ℕ) → is_marked no_nodes i ≡ true → ⊥
none_marked i marked = let no : false ≡ true = sym (unmarked_all 15 i) ∙ marked in absurd (cc)

-- one mark more
pub marked_more : (marks : List Bool) (node i : ℕ) → is_marked (slice_set marks node true) i ≡ true → (i ≡ node) ⊎ (is_marked marks i ≡ true)
marked_more marks node i marked = ⊎_elim
    (λ (here : i ≡ node). inl here)
    (λ (apart : i ≢ node). inr (sym (put_elsewhere marks node i true false apart) ∙ marked))
    (at_or_not i node)
