use Rattle.std.proofs.Common.{length, ap, arith, ◌++◌, ◌∙◌, List, Some, refl, sym, subst}
use Rattle.std.proofs.lemmas.Bool.{false≢true}
use Rattle.redo_core.specs.Standing.{IsAlive}
use Rattle.redo_core.specs.declared.keys.Key.{Key}
use Rattle.hot_log.specs.Ahead.{PassesToAlive}
use Rattle.hot_log.proofs.Beside.{none_passed, one_passed, all_passed}
use Rattle.hot_log.proofs.links.next_alive.Goals as goal
use Rattle.hot_log.proofs.Keyed.{Entry}

pub loop-key-init : goal.loop-key-init
loop-key-init c = none_passed c.args.book.now c.args.left.now

pub loop-key-smaller : goal.loop-key-smaller
loop-key-smaller c = let e = ap (λ l. length l) c.in-Some.ensures.steps in omega (arith, e)

pub loop-key-preserved : goal.loop-key-preserved
loop-key-preserved c =
    one_passed c.args.book.now c.args.left.now c.loop-key.left c.next.new.self (c.in-Some.key.now, c.in-Some.field-0-1.now) c.loop-key.invariant c.in-Some.ensures.steps
    (λ a. let yes = c.if-is_alive.ensures.alive.1 (subst (λ (k : Key). IsAlive c.args.book.now.cuts c.args.book.now.complete k.epoch k.number) (sym c.key-key.ensures) a) in absurd (false≢true yes))

pub returns-then-is_alive : goal.returns-then-is_alive
returns-then-is_alive c =
    let w = c.loop-key.invariant in
    let alive = subst (λ (k : Key). IsAlive c.args.book.now.cuts c.args.book.now.complete k.epoch k.number) c.key-key.ensures (c.if-is_alive.ensures.alive.0 refl) in
    subst (λ (k : Key). PassesToAlive c.args.book.now c.args.left.now (Some k) c.next.new.self) (sym c.key-key.ensures)
    (alive, (w.passed, c.in-Some.field-0-1.now, w.split ∙ ap (λ (l : List Entry). w.passed ++ l) c.in-Some.ensures.steps, w.none))

pub returns : goal.returns
returns c = all_passed c.args.book.now c.args.left.now c.loop-key.left c.next.new.self c.loop-key.invariant c.in_default.ensures.steps.0
