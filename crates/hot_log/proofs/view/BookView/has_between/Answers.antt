use Rattle.std.proofs.Common.{◌≡◌, ℕ, ◌<◌, nat_lt, IsTrue, ⊎_elim, arith}
use Rattle.std.proofs.lemmas.Bool.{false≢true}
use Rattle.hot_log.specs.Held.{HasKey}
use Rattle.hot_log.proofs.Keys.{lower_told}
use Rattle.hot_log.proofs.view.BookView.has_between.Goals as goal

lower : (a n : ℕ) → IsTrue (nat_lt a n) → a < n
lower a n h = grind arith

pub returns-in-Some-clause-found : goal.returns-in-Some-clause-found
returns-in-Some-clause-found c =
    let key = c.in-Some.key in
    let below = c.args.below in
    let found = c.in-Some.ensures.found in
    let t = found.0 in
    let at : t.0.number ≡ key.number = t.2.1 in (
      λ (h : IsTrue (nat_lt key.number below)). (t.0, t.1, t.3, let lt : key.number < below = lower key.number below h in omega arith),
      λ h.
          let lt : h.0.number < below = h.3 in
          lower_told key.number below (⊎_elim
          (λ (k : HasKey key h.0). let e : h.0.number ≡ key.number = k.1 in omega arith)
          (λ (u : key.number < h.0.number). omega arith)
          (found.1 h.0 h.1 h.2)),
    )

pub returns-in-None-clause-found : goal.returns-in-None-clause-found
returns-in-None-clause-found c = (λ h. absurd (false≢true h), λ h. absurd (c.in-None.ensures.found h.0 h.1 h.2))
