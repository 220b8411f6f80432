-- Bounds of numbers that may have no greatest known.
use Rattle.std.proofs.Common.{◌≡◌, ℕ, zero, suc, ◌<◌, ◌≤◌, inl, inr, refl, subst, arith, rules}
use Rattle.redo_core.specs.Order.{IsGreatest}

-- numbers with a bound have a greatest
none_greatest : (P : ℕ → Type 0) (bound : ℕ) → ((n : ℕ) → P n → n ≤ bound) → ((top : ℕ) → IsGreatest P top → ⊥) → ⊥
none_greatest P zero most none = none 0 (inl refl, most)
none_greatest P (suc b) most none =
    none_greatest P b
    (λ n h. let at : n ≤ suc b = most n h in let no : n ≡ suc b → ⊥ = (λ e. none (suc b) (inr (subst P e h), most)) in omega (arith, at, no))
    none

-- a number that is at most any greatest one is at most every bound
pub at_most_bound : (P : ℕ → Type 0) (q bound : ℕ) → ((n : ℕ) → P n → n ≤ bound) → ((top : ℕ) → IsGreatest P top → top < q → ⊥) → q ≤ bound
at_most_bound P q bound most none = search (rules, none_greatest)
