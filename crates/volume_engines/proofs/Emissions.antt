-- What a life has emitted before a moment.
use Rattle.std.proofs.Common.{◌≡◌, ℕ, zero, suc, ◌<◌, ◌≤◌, ◌⊎◌, ⊎_elim, ◌++◌, Bool, refl, sym, ◌∙◌, subst, ap, arith}
use Rattle.std.specs.Prelude.{if◌then◌else◌}
use Rattle.redo_core.specs.Sets.{IsPart}
use Rattle.std.proofs.lemmas.List.Elements.{Contains-append_left}
use Rattle.volume.specs.declared.phases.Phase.{Phase}
use Rattle.volume.specs.declared.phases.Phase.TheVariants as phase
use Rattle.volume.specs.declared.phases.Writing.{Writing}
use Rattle.volume_theorems.proofs.Stopping.{lt_true, lt_false}
use Rattle.volume_logs.specs.Histories.{History}
use Rattle.volume_engines.specs.Lives.{Life}
use Rattle.volume_engines.specs.Emissions.{emitted, emitted_in, emitted_by, steps_before, HasEmissions}

-- ---- steps and moments
module _ (life : Life) (count : ℕ) (apart : (n : ℕ) → suc n < count → life.moments n < life.moments (suc n)) where
  moments_rise : (n m : ℕ) → n ≤ m → m < count → life.moments n ≤ life.moments m
  moments_rise n zero order within = let same : n ≡ 0 = omega arith in subst (λ (i : ℕ). life.moments i ≤ life.moments 0) (sym same) (omega arith)
  moments_rise n (suc m) order within = ⊎_elim
      (λ (same : n ≡ suc m). subst (λ (i : ℕ). life.moments i ≤ life.moments (suc m)) (sym same) (omega arith))
      (λ (low : n ≤ m).
      let before : life.moments n ≤ life.moments m = moments_rise n m low (omega arith) in
      let next : life.moments m < life.moments (suc m) = apart m within in
      omega arith)
      (let way : (n ≡ suc m) ⊎ (n ≤ m) = grind (arith, order) in way)

  abbrev picks : ℕ → ℕ → Bool → ℕ
  picks n t b = if b then suc n else steps_before life n t

  -- the steps before a moment that is not after step n
  steps_below : (n m t : ℕ) → n ≤ m → m ≤ count → ((i : ℕ) → n ≤ i → i < m → t ≤ life.moments i) → steps_before life m t ≡ steps_before life n t
  steps_below n zero t order within late = let same : n ≡ 0 = omega arith in ap (λ (i : ℕ). steps_before life i t) (sym same)
  steps_below n (suc m) t order within late = ⊎_elim
      (λ (same : n ≡ suc m). ap (λ (i : ℕ). steps_before life i t) (sym same))
      (λ (low : n ≤ m).
      ap (λ (b : Bool). picks m t b) (lt_false (life.moments m) t (late m low (omega arith)))
      ∙ steps_below n m t low (omega arith) (λ i above under. late i above (omega arith)))
      (let way : (n ≡ suc m) ⊎ (n ≤ m) = grind (arith, order) in way)

  steps_upto : (n t : ℕ) → n ≤ count → ((i : ℕ) → suc i ≡ n → life.moments i < t) → steps_before life n t ≡ n
  steps_upto zero t within early = refl
  steps_upto (suc n) t within early = ap (λ (b : Bool). picks n t b) (lt_true (life.moments n) t (early n refl))

  -- before a step come just the earlier ones
  pub steps_at : (n : ℕ) → n < count → steps_before life count (life.moments n) ≡ n
  steps_at n within =
      steps_below n count (life.moments n) (omega arith) (omega arith) (λ i above under. moments_rise n i above under)
      ∙ steps_upto n (life.moments n) (omega arith) (λ i same.
      let next : life.moments i < life.moments (suc i) = apart i (omega arith) in
      subst (λ (j : ℕ). life.moments i < life.moments j) same next)

-- all steps that come before
pub all_before : (life : Life) (count t : ℕ) → ((n : ℕ) → suc n ≡ count → life.moments n < t) → steps_before life count t ≡ count
all_before life zero t early = refl
all_before life (suc n) t early = ap (λ (b : Bool). if b then suc n else steps_before life n t) (lt_true (life.moments n) t (early n refl))

-- ---- what is emitted
pub emitted_more : (life : Life) (n : ℕ) → IsPart (emitted_by life n) (emitted_by life (suc n))
emitted_more life n f inside =
    Contains-append_left (emitted_by life n) (emitted_in (life.states n).phase (life.states (suc n)).phase (life.events n) (life.actions n)) f inside

-- a step of an open volume
pub emits_open : (life : Life) (n : ℕ) (w x : Writing) → (life.states n).phase ≡ phase.Open w → (life.states (suc n)).phase ≡ phase.Open x
    → emitted_by life (suc n) ≡ emitted_by life n ++ emitted (life.events n) (life.actions n) w x
emits_open life n w x from to =
    ap (λ (p : Phase). emitted_by life n ++ emitted_in p (life.states (suc n)).phase (life.events n) (life.actions n)) from
    ∙ ap (λ (p : Phase). emitted_by life n ++ emitted_in (phase.Open w) p (life.events n) (life.actions n)) to

-- the history has them
pub emitted_written : (h : History) (life : Life) (count t k n : ℕ) → HasEmissions h life count t k → n < count → life.moments n ≤ t
    → h.written (life.moments n) k ≡ emitted_by life n
emitted_written h life count t k n has within upto =
    has.written (life.moments n) upto ∙ ap (λ (i : ℕ). emitted_by life i) (steps_at life count has.apart n within)
