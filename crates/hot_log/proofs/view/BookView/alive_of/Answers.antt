use Rattle.std.proofs.Common.{◌≡◌, ℕ, ◌+◌, ◌-◌, ◌<◌, refl, sym, ◌∙◌, subst, arith, true, false}
use Rattle.std.specs.Option.{option_copied}
use Rattle.std.proofs.lemmas.Bool.{false≢true}
use Rattle.redo_core.specs.Standing.{IsAlive}
use Rattle.hot_log.proofs.Climb.{positive, only_there}
use Rattle.hot_log.proofs.view.BookView.alive_of.Goals as goal

pub returns-then-number-eq0 : goal.returns-then-number-eq0
returns-then-number-eq0 c r h =
    let up : 0 < r.number = positive r (c.opens_form.ensures.form.shaped r h.0.0) in
    let zero : r.number ≡ 0 = h.1 ∙ c.if-number-eq0.true in
    omega arith

pub returns-then-is_alive : goal.returns-then-is_alive
returns-then-is_alive c =
    let b = c.args.self.now.book.now in
    let next : c.args.number - 1 + 1 ≡ c.args.number = omega (arith, c.if-number-eq0.false) in
    only_there b c.args.self.now.held.now c.args.number c.epoch_above-epoch.result (option_copied c.get.result) c.if-is_alive.ensures.book c.opens_form.ensures.form
    (λ e a. c.epoch_above-epoch.ensures.parts.1 e (subst (λ (n : ℕ). IsAlive b.cuts b.complete e n) (sym next) a)) (c.if-is_alive.ensures.alive.0 refl) c.get.ensures

pub returns-else-is_alive : goal.returns-else-is_alive
returns-else-is_alive c r h =
    let b = c.args.self.now.book.now in let epoch = c.epoch_above-epoch.result in
    let next : c.args.number - 1 + 1 ≡ c.args.number = omega (arith, c.if-number-eq0.false) in
    let a : IsAlive b.cuts b.complete r.epoch c.args.number = subst (λ (n : ℕ). IsAlive b.cuts b.complete r.epoch n) h.1 h.0.1 in
    let e : r.epoch ≡ epoch = c.epoch_above-epoch.ensures.parts.1 r.epoch (subst (λ (n : ℕ). IsAlive b.cuts b.complete r.epoch n) (sym next) a) in
    let yes = c.if-is_alive.ensures.alive.1 (subst (λ (x : ℕ). IsAlive b.cuts b.complete x c.args.number) e a) in
    let no : false ≡ true = yes in
    absurd (false≢true no)
