-- The run of a key whose first key is not above it, where that of the next run is.
use Rattle.std.proofs.Common.{◌≡◌, ℕ, suc, ◌<◌, ◌≤◌, ◌+◌, ◌-◌, List, length, get_or, subst, sym, inr, ⊎_elim, true, arith}
use Rattle.std.proofs.lemmas.Bool.{cases_lt}
use Rattle.std.proofs.lemmas.Map.Keys.{Less-from_sorted}
use Rattle.std.specs.Cmp.{IsTotalOrder}
use Rattle.std.specs.List.Sorted.{IsStrictlySortedBy}
use Rattle.std.specs.Ordering.{is_ge, is_lt}
use Rattle.std.specs.declared.cmp.Ordering.{Ordering}
use Rattle.std.specs.declared.cmp.Ordering.TheVariants.{Less}
use Rattle.sorted_runs.specs.Places.{IsRunFor}
use Rattle.sorted_runs.proofs.Found.{left}
use Rattle.sorted_runs.proofs.Halved.{is_less}

module _ {K : Type 0} {R : K → K → Ordering} (o : IsTotalOrder R) (k : K) (fs : List K) (rising : IsStrictlySortedBy R fs) where
  pub run_between : (r : ℕ) (x y : K) → r < length fs - 1 → ((d : K) → get_or fs r d ≡ x) → ((d : K) → get_or fs (r + 1) d ≡ y)
      → is_ge (R k x) ≡ true → is_lt (R k y) ≡ true → IsRunFor R fs k r
  run_between r x y within at_x at_y low high =
      let less : R k y ≡ Less = is_less (R k y) high in
      record {
        within = omega arith;
        reached = inr (λ d lt. let it = subst (λ z. R k z ≡ Less) (at_x d) lt in cc);
        passed = left (λ f. R k f ≡ Less) fs (suc r) (λ j d le in_range. ⊎_elim
            (λ (far : r + 1 < j). o.trans k y (get_or fs j d) less
            (subst (λ z. R z (get_or fs j d) ≡ Less) (at_y d) (Less-from_sorted R fs (r + 1) j d rising far in_range)))
            (λ (near : j ≤ r + 1). let same : j ≡ r + 1 = omega arith in
            subst (λ i. R k (get_or fs i d) ≡ Less) (sym same) (subst (λ z. R k z ≡ Less) (sym (at_y d)) less))
            (cases_lt (r + 1) j));
      }
