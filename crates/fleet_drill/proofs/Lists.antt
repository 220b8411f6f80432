-- Two lists that grow or shrink together.
use Rattle.std.proofs.Common.{◌≡◌, ℕ, zero, suc, ◌+◌, ◌-◌, ◌<◌, List, [], ◌∷◌, ◌++◌, length, ⊎_elim, refl, sym, ap, subst, ◌∙◌, arith, Option, Some, length-append}
use Rattle.std.specs.Prelude.{slice_get, slice_index_or, All, replicate}
use Rattle.std.proofs.Math.ListN.{get_or-append}
use Rattle.std.proofs.lemmas.Option.{slice_get_within}
use Rattle.redo_core.proofs.ByPlace.{at_longer}
use Rattle.node_threads.specs.Each.{Each}
use Rattle.node_threads.proofs.Places.{at_more}

-- an item was there before the last ones were removed
pub was_at : {X : Type 0} (xs xs' ys : List X) (k : ℕ) (x : X) → xs ≡ xs' ++ ys → slice_get xs' k ≡ Some x → slice_get xs k ≡ Some x
was_at xs xs' ys k x is e = subst (λ zs. slice_get zs k ≡ Some x) (sym is) (at_longer xs' ys k x e)

-- what holds of all holds of those that stay
pub all_before : {X : Type 0} (xs xs' ys : List X) (P : X → Type 0) → xs ≡ xs' ++ ys → All P xs → All P xs'
all_before xs xs' ys P is all k d lt =
    let len : length (xs' ++ ys) ≡ length xs' + length ys = length-append xs' ys in
    subst P (get_or-append xs' ys d k lt) (subst (All P) is all k d (omega (arith, lt, len)))

pub last_at : {X : Type 0} (xs : List X) (x : X) → slice_get (xs ++ x ∷ []) (length xs) ≡ Some x
last_at [] x = refl
last_at (z ∷ xs) x = last_at xs x

-- both have one more
pub each_both : {X Y : Type 0} (xs xs' : List X) (ys ys' : List Y) (x : X) (y : Y) (R : ℕ → X → Y → Type 0) → Each R xs ys → length ys ≡ length xs → xs' ≡ xs ++ x ∷ [] → ys' ≡ ys ++ y ∷ [] → R (length xs) x y → Each R xs' ys'
each_both xs xs' ys ys' x y R all len xis yis own = subst (λ zs. Each R zs ys') (sym xis) (subst (Each R (xs ++ x ∷ [])) (sym yis) (record {
  at = λ k a b ea eb. ⊎_elim
      (λ (olda : slice_get xs k ≡ Some a). ⊎_elim
      (λ (oldb : slice_get ys k ≡ Some b). all.at k a b olda oldb)
      (λ (newb : (k ≡ length ys) × (y ≡ b)). let within = slice_get_within xs k a olda in absurd (omega (arith, within, len, newb.0)))
      (at_more ys y k b eb))
      (λ (newa : (k ≡ length xs) × (x ≡ a)). ⊎_elim
      (λ (oldb : slice_get ys k ≡ Some b). let within = slice_get_within ys k b oldb in absurd (omega (arith, within, len, newa.0)))
      (λ (newb : (k ≡ length ys) × (y ≡ b)). subst (λ n. R n a b) (sym newa.0) (subst (λ z. R (length xs) z b) newa.1 (subst (λ z. R (length xs) x z) newb.1 own)))
      (at_more ys y k b eb))
      (at_more xs x k a ea);
}))

-- both have one less
pub each_less : {X Y : Type 0} (xs xs' : List X) (ys ys' : List Y) (x : X) (y : Y) (R : ℕ → X → Y → Type 0) → Each R xs ys → length ys ≡ length xs → xs ≡ xs' ++ x ∷ [] → ys ≡ ys' ++ y ∷ [] → Each R xs' ys' × R (length xs') x y
each_less xs xs' ys ys' x y R all len xis yis =
    let lenx : length xs ≡ length xs' + 1 = ap length xis ∙ length-append xs' (x ∷ []) in
    let leny : length ys ≡ length ys' + 1 = ap length yis ∙ length-append ys' (y ∷ []) in
    let same : length ys' ≡ length xs' = omega (arith, lenx, leny, len) in
    let lastx : slice_get xs (length xs') ≡ Some x = subst (λ zs. slice_get zs (length xs') ≡ Some x) (sym xis) (last_at xs' x) in
    let lasty : slice_get ys (length xs') ≡ Some y = subst (λ n. slice_get ys n ≡ Some y) same (subst (λ zs. slice_get zs (length ys') ≡ Some y) (sym yis) (last_at ys' y)) in (
      record { at = λ k a b ea eb. all.at k a b (subst (λ zs. slice_get zs k ≡ Some a) (sym xis) (at_longer xs' (x ∷ []) k a ea)) (subst (λ zs. slice_get zs k ≡ Some b) (sym yis) (at_longer ys' (y ∷ []) k b eb)) },
      all.at (length xs') x y lastx lasty,
    )

-- the next item of copies of one is that one
pub copy_at : {X : Type 0} (count : ℕ) (x : X) (k : ℕ) (y : X) → slice_get (replicate count x) k ≡ Some y → y ≡ x
copy_at zero x k y e = absurd cc
copy_at (suc n) x zero y e = let same : x ≡ y = cc in sym same
copy_at (suc n) x (suc k) y e = copy_at n x k y e

pub copies : {X : Type 0} (count : ℕ) (x : X) → length (replicate count x) ≡ count
copies zero x = refl
copies (suc n) x = ap suc (copies n x)

all_push : {X : Type 0} (xs : List X) (x : X) (P : X → Type 0) → All P xs → P x → (k : ℕ) (d : X) → k < length (xs ++ x ∷ []) → P (slice_index_or (xs ++ x ∷ []) k d)
all_push [] x P all own zero d lt = own
all_push [] x P all own (suc k) d lt = absurd (omega (arith, lt))
all_push (y ∷ ys) x P all own zero d lt = all 0 y (omega arith)
all_push (y ∷ ys) x P all own (suc k) d lt = all_push ys x P (λ j e h. all (suc j) e (omega (arith, h))) own k d (omega (arith, lt))

-- all, and one more
pub all_more : {X : Type 0} (xs xs' : List X) (x : X) (P : X → Type 0) → All P xs → xs' ≡ xs ++ x ∷ [] → P x → All P xs'
all_more xs xs' x P all is own = subst (All P) (sym is) (all_push xs x P all own)

pub some_same : {X : Type 0} (o : Option X) (x y : X) → o ≡ Some x → o ≡ Some y → x ≡ y
some_same o x y a b = cc

-- the item that a number names
pub named_same : {X : Type 0} (xs : List X) (n k : ℕ) (x i : X) → n ≡ k + 1 → slice_get xs (n - 1) ≡ Some i → slice_get xs k ≡ Some x → x ≡ i
named_same xs n k x i is named at =
    let place : n - 1 ≡ k = omega (arith, is) in
    some_same (slice_get xs k) x i at (subst (λ m. slice_get xs m ≡ Some i) place named)

-- an item of a list is in an equal list
pub slice_as : {X : Type 0} (xs ys : List X) (k : ℕ) (x : X) → xs ≡ ys → slice_get ys k ≡ Some x → slice_get xs k ≡ Some x
slice_as xs ys k x same at = subst (λ zs. slice_get zs k ≡ Some x) (sym same) at

pub one_longer : {X : Type 0} (xs ys : List X) (x : X) → ys ≡ xs ++ x ∷ [] → length ys ≡ length xs + 1
one_longer xs ys x is = ap length is ∙ length-append xs (x ∷ [])
