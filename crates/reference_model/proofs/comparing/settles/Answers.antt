use Rattle.std.proofs.lemmas.Grind.{common_steps}
use Rattle.std.proofs.Common.{◌≡◌, ◌≤◌, ◌<◌, ◌↔◌, sym, subst, arith}
use Rattle.std.specs.Prelude.{IsTrue, not}
use Rattle.std.proofs.lemmas.Bool.{le-leb}
use Rattle.redo_core.specs.Sets.{cuts}
use Rattle.redo_core.specs.Standing.{IsAlive}
use Rattle.reference_model.specs.Stands.{position_of}
use Rattle.reference_model.specs.Comparing.{Settles}
use Rattle.reference_model.proofs.Coverings.{settled_low, settled_if_dead}
use Rattle.reference_model.proofs.comparing.settles.Goals as goal

pub returns-then-number-at : goal.returns-then-number-at
returns-then-number-at c =
    let facts = c.args.facts.now in let at = position_of c.args.at.now in let redo = c.in-Record.redo in
    let e : c.epoch.result ≡ redo.epoch = c.epoch.ensures in
    let n : c.number.result ≡ redo.number = c.number.ensures.value in
    let known : redo.epoch ≤ c.args.at.now.epoch = subst (λ i. i ≤ c.args.at.now.epoch) e c.if-epoch-at.true in
    let low : redo.number ≤ c.args.at.now.anchor = subst (λ i. i ≤ c.args.at.now.anchor) n c.if-number-at.true in (
      λ t. subst (Settles facts at) (sym c.in-Record.is) (settled_low facts at redo known low),
      λ s. le-leb c.number.result c.args.at.now.anchor c.if-number-at.true,
    )

pub returns-else-number-at : goal.returns-else-number-at
returns-else-number-at c =
    let facts = c.args.facts.now in let at = position_of c.args.at.now in let redo = c.in-Record.redo in let alive = c.is_alive.result in
    let is : IsTrue alive ↔ IsAlive (cuts facts) at.epoch redo.epoch redo.number =
    subst (λ e. IsTrue alive ↔ IsAlive (cuts facts) at.epoch e redo.number) c.epoch-else-number-at.ensures
    (subst (λ n. IsTrue alive ↔ IsAlive (cuts facts) at.epoch c.epoch-else-number-at.result n) c.number-else-number-at.ensures.value c.is_alive.ensures) in
    subst (λ f. IsTrue (not alive) ↔ Settles facts at f) (sym c.in-Record.is)
    (settled_if_dead facts at redo alive is (subst (λ i. i ≤ at.epoch) c.epoch.ensures c.if-epoch-at.true)
    (subst (λ i. at.anchor < i) c.number.ensures.value c.if-number-at.false))

pub returns-else-epoch-at-2 : goal.returns-else-epoch-at-2
returns-else-epoch-at-2 c = grind (arith, common_steps)

pub returns-then-epoch-at-2 : goal.returns-then-epoch-at-2
returns-then-epoch-at-2 c = grind (arith, common_steps)

pub returns-else-epoch-at : goal.returns-else-epoch-at
returns-else-epoch-at c = grind (arith, common_steps)

pub returns-in-Cut : goal.returns-in-Cut
returns-in-Cut c = grind (arith, common_steps)
