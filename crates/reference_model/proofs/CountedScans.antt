-- Scans of a log for the backlink of a record.
use Rattle.std.proofs.Common.{◌≡◌, ℕ, ◌+◌, ◌<◌, ◌≤◌, ◌⊎◌, List, length, get_or, take, refl, sym, subst, arith, rules}
use Rattle.std.specs.List.{Contains, All}
use Rattle.std.proofs.lemmas.List.Elements.{All-contains}
use Rattle.redo_core.specs.Data.{RecordData}
use Rattle.redo_core.specs.Sets.{records}
use Rattle.redo_core.specs.Sound.{IsAliveBelow}
use Rattle.redo_core.specs.declared.facts.Fact.{Fact}
use Rattle.redo_core.specs.declared.facts.Fact.TheVariants.{Record}
use Rattle.redo_core.proofs.FactParts.{record_in}
use Rattle.reference_model.specs.declared.chains.Chain.{Chain}
use Rattle.reference_model.specs.Chained.{Follows, IsBelowOn}
use Rattle.reference_model.proofs.Scanned.{IsBelowUpTo}
use Rattle.redo_core.proofs.Scans.{one_more}

-- a record below on a chain is one alive below
pub alive_below : (log : List Fact) (r : RecordData) (chain : Chain) (s : RecordData) → Contains (records log) s → IsBelowOn log r chain s
    → IsAliveBelow log r (Follows chain r) s.number
alive_below log r chain s h b = record { other = s; among = h; alive = b.alive; only = b.only; number = refl; below = b.below }

pub top_below : (log : List Fact) (r : RecordData) (chain : Chain) (t n : ℕ) → All (IsBelowUpTo log r chain t) log → IsAliveBelow log r (Follows chain r) n
    → n ≤ t
top_below log r chain t n all a =
    let l : a.other.number ≤ t = All-contains (IsBelowUpTo log r chain t) log (Record a.other) all ((record_in log a.other).0 a.among)
    (record { alive = a.alive; only = a.only; below = let e : a.other.number ≡ n = a.number in let b : n < r.number = a.below in omega arith }) in
    let e : a.other.number ≡ n = a.number in
    omega arith

higher_at : (log : List Fact) (r : RecordData) (chain : Chain) (s t : ℕ) → s ≤ t → (f : Fact) → IsBelowUpTo log r chain s f → IsBelowUpTo log r chain t f
higher_at log r chain s t l f h = search rules

pub higher_below : (log xs : List Fact) (r : RecordData) (chain : Chain) (s t : ℕ) → s ≤ t → All (IsBelowUpTo log r chain s) xs
    → All (IsBelowUpTo log r chain t) xs
higher_below log xs r chain s t l all k d u = higher_at log r chain s t l (get_or xs k d) (all k d u)

pub below_record : (log : List Fact) (r : RecordData) (chain : Chain) (t : ℕ) (f : Fact) (s : RecordData) → f ≡ Record s
    → (IsBelowOn log r chain s → s.number ≤ t) → IsBelowUpTo log r chain t f
below_record log r chain t f s q h = subst (IsBelowUpTo log r chain t) (sym q) h

pub below_default : (log : List Fact) (r : RecordData) (chain : Chain) (t : ℕ) (f : Fact) → ((s : RecordData) → f ≡ Record s → ⊥) → IsBelowUpTo log r chain t f
below_default log r chain t f h = search rules

-- a step that leaves the greatest
pub below_step : (xs : List Fact) (i : ℕ) (f : Fact) (r : RecordData) (chain : Chain) (m n : ℕ) → i < length xs → f ≡ get_or xs i f → n ≡ m
    → (m ≡ 0) ⊎ IsAliveBelow xs r (Follows chain r) m → All (IsBelowUpTo xs r chain m) (take i xs) → IsBelowUpTo xs r chain m f
    → (let T : Type 0 = record { there : (n ≡ 0) ⊎ IsAliveBelow xs r (Follows chain r) n; top : All (IsBelowUpTo xs r chain n) (take (i + 1) xs) } in T)
below_step xs i f r chain m n b q same there top up = record {
  there = subst (λ k. (k ≡ 0) ⊎ IsAliveBelow xs r (Follows chain r) k) (sym same) there;
  top = subst (λ k. All (IsBelowUpTo xs r chain k) (take (i + 1) xs)) (sym same) (one_more (IsBelowUpTo xs r chain m) xs i f b q top up);
}
