-- A frame that is written in two pieces.
use Rattle.std.proofs.Common.{◌≡◌, ℕ, zero, suc, ◌+◌, List, [], ◌∷◌, ◌++◌, length, take, Option, Result, refl, sym, ap, ◌∙◌, subst, append_assoc, rules}
use Rattle.std.specs.Prelude.{OnErr}
use Rattle.std.specs.Io.KnownBytes.{Appends}
use Rattle.std.proofs.KnownBytes.{Appends-trans}
use Rattle.std.proofs.Math.Seq.{take-append-add}

pub then_err : {A E : Type 0} (r : Result A E) (P Q : Type 0) → (P → Q) → OnErr r P → OnErr r Q
then_err r P Q f h = search rules

-- a beginning of the first piece is one of both
part_of : (n : ℕ) (xs ys : List ℕ) → (k : ℕ) × (take n xs ≡ take k (xs ++ ys))
part_of zero xs ys = (0, refl)
part_of (suc n) [] ys = (0, refl)
part_of (suc n) (x ∷ xs) ys = let p = part_of n xs ys in (suc p.0, ap (λ (l : List ℕ). x ∷ l) p.1)

module _ (said head front behind bytes : List ℕ) (is : said ≡ head ++ front) (all : bytes ≡ front ++ behind) where
  both : said ++ behind ≡ head ++ bytes
  both = ap (λ (l : List ℕ). l ++ behind) is ∙ append_assoc head front behind ∙ ap (λ (l : List ℕ). head ++ l) (sym all)

  pub first_part : (a b : Option (List ℕ)) (n : ℕ) → Appends a b (take n said) → (k : ℕ) × Appends a b (take k (head ++ bytes))
  first_part a b n put =
      let p = part_of n said behind in (p.0, subst (Appends a b) (p.1 ∙ ap (take p.0) both) put)

  pub second_part : (a b c : Option (List ℕ)) → Appends a b said → (n : ℕ) × Appends b c (take n behind) → (k : ℕ) × Appends a c (take k (head ++ bytes))
  second_part a b c put more = (
    length said + more.0,
    subst (Appends a c) (sym (take-append-add said behind more.0) ∙ ap (take (length said + more.0)) both) (Appends-trans a b c said (take more.0 behind) put more.1),
  )
