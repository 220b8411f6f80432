-- A search that halves the first keys of runs.
use Rattle.std.proofs.Common.{◌≡◌, ℕ, suc, ◌+◌, ◌<◌, ◌≤◌, ◌⊎◌, List, length, get_or, drop, sym, ◌∙◌, subst, arith, true, rules}
use Rattle.std.specs.List.{AllByRecursion}
use Rattle.std.specs.Cmp.{IsTotalOrder}
use Rattle.std.specs.Ordering.{is_lt}
use Rattle.std.specs.List.Sorted.{IsStrictlySortedBy}
use Rattle.std.specs.declared.cmp.Ordering.{Ordering}
use Rattle.std.specs.declared.cmp.Ordering.TheVariants.{Less}
use Rattle.std.proofs.lemmas.List.{get_or_default}
use Rattle.std.proofs.lemmas.Map.Keys.{Less-from_sorted}
use Rattle.std.proofs.Math.Seq.{drop-cons}
use Rattle.sorted_runs.specs.Places.{IsRunFor}
use Rattle.sorted_runs.proofs.Found.{left}

-- the run of the key is one from r on, and before the end
pub record IsRunWithin {K : Type 0} (cmp : K → K → Ordering) (firsts : List K) (key : K) (r end : ℕ) : Type 0 where
  pub rising : r < end
  pub within : end ≤ length firsts
  pub reached : (r ≡ 0) ⊎ ((d : K) → cmp key (get_or firsts r d) ≡ Less → ⊥)
  pub passed : AllByRecursion (λ f. cmp key f ≡ Less) (drop end firsts)

pub is_less : (p : Ordering) → is_lt p ≡ true → p ≡ Less
is_less p h = search rules

module _ {K : Type 0} {R : K → K → Ordering} (o : IsTotalOrder R) (k : K) (fs : List K) where
  pub one_run : (r end : ℕ) → end ≤ r + 1 → IsRunWithin R fs k r end → IsRunFor R fs k r
  one_run r end last h = search rules

  module _ (rising : IsStrictlySortedBy R fs) (r end middle : ℕ) (h : IsRunWithin R fs k r end) (low : r < middle) (high : middle < end) (x : K) (at : x ≡ get_or fs middle x) where
    in_range : middle < length fs
    in_range = omega (arith, high, h.within)

    at_any : (d : K) → get_or fs middle d ≡ x
    at_any d = get_or_default fs middle d x in_range ∙ sym at

    pub lower_half : is_lt (R k x) ≡ true → IsRunWithin R fs k r middle
    lower_half below = record {
      rising = low;
      within = omega (arith, in_range);
      reached = h.reached;
      passed = subst (AllByRecursion (λ f. R k f ≡ Less)) (sym (drop-cons fs middle x in_range)) (
        subst (λ (y : K). R k y ≡ Less) at (is_less (R k x) below),
        left (λ f. R k f ≡ Less) fs (suc middle) (λ j d above last. o.trans k x (get_or fs j d) (is_less (R k x) below) (subst (λ (y : K). R y (get_or fs j d) ≡ Less) (at_any d) (Less-from_sorted R fs middle j d rising (omega arith) last))),
      );
    }
