-- What is made of the items of a list, one after another.
use Rattle.std.proofs.Common.{◌≡◌, ℕ, ◌<◌, ◌≤◌, ◌+◌, List, [], ◌∷◌, ◌++◌, map, length, get_or, take, take_all, sym, ap, ◌∙◌}
use Rattle.std.proofs.lemmas.List.{map-append, take_more}

module _ {X : Type 0} (xs : List X) where
  -- one item more
  pub one_more : (i : ℕ) (x : X) → i < length xs → x ≡ get_or xs i x → take i xs ++ x ∷ [] ≡ take (i + 1) xs
  one_more i x lt is = ap (λ y. take i xs ++ y ∷ []) is ∙ sym (take_more xs i x lt)

  module _ {Y : Type 0} (f : X → Y) where
    pub made_more : (ys : List Y) (i : ℕ) (x : X) → i < length xs → x ≡ get_or xs i x → ys ≡ map f (take i xs) → ys ++ f x ∷ [] ≡ map f (take (i + 1) xs)
    made_more ys i x lt is made =
        ap (λ l. l ++ f x ∷ []) made ∙ sym (map-append f (take i xs) (x ∷ [])) ∙ ap (map f) (one_more i x lt is)

    -- each item
    pub made_all : (ys : List Y) (i : ℕ) → length xs ≤ i → ys ≡ map f (take i xs) → ys ≡ map f xs
    made_all ys i end made = made ∙ ap (map f) (take_all i xs end)
