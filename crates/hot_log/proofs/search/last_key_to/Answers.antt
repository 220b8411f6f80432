use Rattle.std.proofs.Common.{◌≡◌, ℕ, ◌+◌, ◌-◌, ◌<◌, ◌⊎◌, ⊎_elim, subst, arith}
use Rattle.redo_core.specs.Order.{PairBefore}
use Rattle.redo_core.specs.Keys.{key_in}
use Rattle.redo_core.specs.Standing.{IsAlive}
use Rattle.epoch_book.specs.Book.{BookData, IsBook}
use Rattle.hot_log.specs.Alive.{PartsAt, PartsAtKey}
use Rattle.hot_log.proofs.Views.{view_of}
use Rattle.hot_log.proofs.search.last_key_to.Goals as goal

-- an LSN that is alive in a later epoch than the first is above that epoch's hi
parts_at_none : (b : BookData) (number : ℕ) → IsBook b → number ≡ 0 → PartsAtKey b number (key_in 0 0)
parts_at_none b number is zero e n a = (
  λ lt. let t : PairBefore 0 0 e n = grind arith in t,
  λ p. ⊎_elim
      (λ (l : 0 < e).
      let c = (view_of b is).begun e l a.known in
      let up : c.0.hi < n = a.begun c.0 c.1 c.2 in
      omega arith)
      (λ (q : (0 ≡ e) × (0 < n)). let up : 0 < n = q.1 in omega arith)
      p,
)

-- the LSN itself can be alive in the one epoch alone
parts_below : (b : BookData) (number epoch : ℕ) → (number ≡ 0 → ⊥) → PartsAt b (number - 1) epoch → PartsAtKey b number (key_in epoch number)
parts_below b number epoch some parts e n a = (
  λ lt. ⊎_elim
      (λ (l : epoch < e). let t : PairBefore epoch number e n = grind arith in t)
      (λ (q : (epoch ≡ e) × (number - 1 < n)). let s : epoch ≡ e = q.0 in let t : PairBefore epoch number e n = grind arith in t)
      ((parts.0 e n a).0 (omega arith)),
  λ p. ⊎_elim
      (λ (l : epoch < e).
      let up : number - 1 < n = (parts.0 e n a).1 (let t : PairBefore epoch (number - 1) e n = grind arith in t) in
      ⊎_elim
      (λ (u : number < n). u)
      (λ (u : number ≡ n).
      let at : n ≡ number - 1 + 1 = omega arith in
      let only : e ≡ epoch = parts.1 e (subst (λ (m : ℕ). IsAlive b.cuts b.complete e m) at a) in
      absurd (omega arith))
      (let t : (number < n) ⊎ (number ≡ n) = grind arith in t))
      (λ (q : (epoch ≡ e) × (number < n)). q.1)
      p,
)

pub returns-then-number-eq0-clause-parts : goal.returns-then-number-eq0-clause-parts
returns-then-number-eq0-clause-parts c = parts_at_none c.args.book.now c.args.number c.opens_form.ensures.form c.if-number-eq0.true

pub returns-clause-parts : goal.returns-clause-parts
returns-clause-parts c = parts_below c.args.book.now c.args.number c.epoch_above.result c.if-number-eq0.false c.epoch_above.ensures.parts
