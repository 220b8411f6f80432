-- The number at the end of each page, gathered from the least page on.
use Rattle.std.proofs.Common.{◌≡◌, ℕ, ◌<◌, ◌≤◌, ◌⊎◌, inl, inr, ⊎_elim, List, [], slice_index, Option, Some, None, refl, sym, ◌∙◌, subst, arith}
use Rattle.hot_log.specs.Found.{IsLeast, IsPageAbove}
use Rattle.segment_theorems.specs.State.{State}
use Rattle.segment_theorems.specs.Shows.{Shows}
use Rattle.segment_core.proofs.Pages.{IsPassed}
use Rattle.redo_writer.specs.Tracks.{PutsTop}
use Rattle.redo_writer.specs.Layout.{number_of}

-- the number that the page has at its end at a point
abbrev pub HasNumberAt : State → ℕ → ℕ → ℕ → Type 0
HasNumberAt s point page top = (image : List ℕ) × Shows s page point image × (top ≡ number_of image)

-- a page with S has a number with T, and another one 0
abbrev pub IsTopOf : (ℕ → Type 0) → (ℕ → ℕ → Type 0) → ℕ → ℕ → Type 0
IsTopOf S T page top = (S page × T page top) ⊎ (¬ (S page) × (top ≡ 0))

abbrev pub IsNextOf : (ℕ → Type 0) → Option ℕ → Type 0
IsNextOf S None = Unit {0}
IsNextOf S (Some next) = S next

-- each page that is passed has its number, and no other page has one
pub record TopsTo (S : ℕ → Type 0) (T : ℕ → ℕ → Type 0) (next : Option ℕ) (tops : List ℕ) : Type 0 where
  pub stored : IsNextOf S next
  pub each : (g : ℕ) → IsPassed next g → IsTopOf S T g (slice_index tops g)
  pub rest : (g : ℕ) → ¬ (IsPassed next g) → slice_index tops g ≡ 0

next_of : (S : ℕ → Type 0) (after next : Option ℕ) → IsLeast (λ n. S n × IsPageAbove after n) next → IsNextOf S next
next_of S after None is = tt
next_of S after (Some next) is = is.0.0

not_between : (S : ℕ → Type 0) (after next : Option ℕ) (g : ℕ) → IsLeast (λ n. S n × IsPageAbove after n) next → IsPageAbove after g → IsPassed next g → S g → ⊥
not_between S after None g is above passed s = is g (s, above)
not_between S after (Some next) g is above passed s = let le : next ≤ g = is.1 g (s, above) in omega (arith, le, passed)

passed_up_to : (S : ℕ → Type 0) (page g : ℕ) (next : Option ℕ) → IsLeast (λ n. S n × IsPageAbove (Some page) n) next → g ≤ page → IsPassed next g
passed_up_to S page g None is le = tt
passed_up_to S page g (Some next) is le = let lt : page < next = is.0.1 in omega (arith, lt, le)

-- at first none is passed
pub tops_none : (S : ℕ → Type 0) (T : ℕ → ℕ → Type 0) (next : Option ℕ) → IsLeast (λ n. S n × IsPageAbove None n) next → TopsTo S T next []
tops_none S T next is = record {
  stored = next_of S None next is;
  each = λ g passed. inr (not_between S None next g is tt passed, refl);
  rest = λ g past. refl;
}

-- one page more
pub tops_more : (S : ℕ → Type 0) (T : ℕ → ℕ → Type 0) (page top : ℕ) (next : Option ℕ) (old new : List ℕ)
    → IsLeast (λ n. S n × IsPageAbove (Some page) n) next → T page top → TopsTo S T (Some page) old → PutsTop page top old new → TopsTo S T next new
tops_more S T page top next old new is here before puts = record {
  stored = next_of S (Some page) next is;
  each = λ g passed.
      ⊎_elim
      (λ (low : (g < page) ⊎ (g ≡ page)). ⊎_elim
      (λ (lt : g < page). subst (IsTopOf S T g) (sym (puts.others g (λ e. omega (arith, lt, e)))) (before.each g lt))
      (λ (e : g ≡ page).
      subst (λ (n : ℕ). IsTopOf S T n (slice_index new n)) (sym e) (subst (IsTopOf S T page) (sym puts.here) (inl (before.stored, here)))) low)
      (λ (above : page < g).
      inr (not_between S (Some page) next g is above passed, puts.others g (λ e. omega (arith, above, e)) ∙ before.rest g (λ lt. omega (arith, above, lt))))
      (let t : ((g < page) ⊎ (g ≡ page)) ⊎ (page < g) = grind arith in t);
  rest = λ g past.
      let above : page < g = ⊎_elim (λ (le : g ≤ page). absurd (past (passed_up_to S page g next is le))) (λ (lt : page < g). lt)
      (let t : (g ≤ page) ⊎ (page < g) = grind arith in t) in
      puts.others g (λ e. omega (arith, above, e)) ∙ before.rest g (λ lt. omega (arith, above, lt));
}
