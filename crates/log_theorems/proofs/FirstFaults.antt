-- A log has one first fault, and none where it is sound.
use Rattle.std.proofs.Common.{◌≡◌, ℕ, ◌<◌, ◌≤◌, ⊎_elim, List, subst, arith, rules}
use Rattle.std.proofs.lemmas.Bool.{cases_lt}
use Rattle.redo_core.specs.Sound.{KeepsLaws, IsSound}
use Rattle.redo_core.specs.Fault.{KeepsLaw, IsFirstFault}
use Rattle.redo_core.specs.declared.facts.Fact.{Fact}
use Rattle.redo_core.specs.declared.laws.Law.{Law}

-- a fact that keeps the laws keeps each
pub keeps_each : (roster : ℕ) (log : List Fact) (place : ℕ) (fact : Fact) (law : Law) → KeepsLaws roster log place fact → KeepsLaw roster log place fact law
keeps_each roster log place fact law k = search rules

pub no_fault : (roster : ℕ) (log : List Fact) (place : ℕ) (law : Law) → IsSound roster log → IsFirstFault roster log place law → ⊥
no_fault roster log place law sound f = f.breaks (keeps_each roster log place f.fact law (sound.keeps place f.fact f.at_place))

not_before : (roster : ℕ) (log : List Fact) (p q : ℕ) (l m : Law) → IsFirstFault roster log p l → IsFirstFault roster log q m → p < q → ⊥
not_before roster log p q l m f g lt = f.breaks (keeps_each roster log p f.fact l (g.before p f.fact lt f.at_place))

one_place : (roster : ℕ) (log : List Fact) (p q : ℕ) (l m : Law) → IsFirstFault roster log p l → IsFirstFault roster log q m → p ≡ q
one_place roster log p q l m f g =
    ⊎_elim
    (λ (lt : p < q). absurd (not_before roster log p q l m f g lt))
    (λ (le : q ≤ p). ⊎_elim (λ (lt : q < p). absurd (not_before roster log q p m l g f lt)) (λ (ge : p ≤ q). omega (arith, le, ge)) (cases_lt q p))
    (cases_lt p q)

one_law_at : (roster : ℕ) (log : List Fact) (p : ℕ) (l m : Law) → IsFirstFault roster log p l → IsFirstFault roster log p m → l ≡ m
one_law_at roster log p l m f g = search rules

pub one_fault : (roster : ℕ) (log : List Fact) (p q : ℕ) (l m : Law) → IsFirstFault roster log p l → IsFirstFault roster log q m → (p ≡ q) × (l ≡ m)
one_fault roster log p q l m f g =
    let same : p ≡ q = one_place roster log p q l m f g in
    (same, one_law_at roster log q l m (subst (λ x. IsFirstFault roster log x l) same f) g)
