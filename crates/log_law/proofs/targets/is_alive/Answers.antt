use Rattle.std.proofs.Common.{◌≡◌, ◌<◌, ◌≤◌, ◌∙◌, get_or, sym, subst, arith}
use Rattle.std.proofs.lemmas.Bool.{leb-true}
use Rattle.log_law.proofs.Candidates.{alive_within}
use Rattle.log_law.proofs.targets.is_alive.Goals as goal

pub returns-then-number-bounds : goal.returns-then-number-bounds
returns-then-number-bounds c log view d b =
    let r = c.args.redo.now in
    let place : c.from-epoch.result ≡ c.args.redo.now.epoch = c.from-epoch.ensures ∙ c.epoch.ensures in
    let len = b.len in
    let inside : c.args.redo.now.epoch ≤ view = omega arith in
    let number : c.number.result ≡ c.args.redo.now.number = c.number.ensures.value in
    let again : c.number-then-number-bounds.result ≡ c.args.redo.now.number = c.number-then-number-bounds.ensures.value in
    let small = c.number.ensures.bound in
    let low : c.number.result ≤ get_or c.args.bounds.now c.args.redo.now.epoch 0 = subst (λ k. c.number.result ≤ get_or c.args.bounds.now k 0) place
    c.if-number-bounds.true in
    let alive = alive_within log view r.epoch r.number (get_or c.args.bounds.now r.epoch 0) inside (omega arith) (b.each r.epoch inside) in
    let above = c.is_above_hi.ensures log d in (
      λ t. alive.1 (
        omega arith,
        λ cut h q. let l : cut.hi < c.number-then-number-bounds.result = above.0 t cut h (q ∙ sym c.epoch-then-number-bounds.ensures) in omega arith,
      ),
      λ a. above.1 (λ cut h q. let l : cut.hi < c.args.redo.now.number = (alive.0 a).1 cut h (q ∙ c.epoch-then-number-bounds.ensures) in omega arith),
    )

pub returns-else-number-bounds : goal.returns-else-number-bounds
returns-else-number-bounds c log view d b =
    let r = c.args.redo.now in
    let place : c.from-epoch.result ≡ c.args.redo.now.epoch = c.from-epoch.ensures ∙ c.epoch.ensures in
    let len = b.len in
    let inside : c.args.redo.now.epoch ≤ view = omega arith in
    let number : c.number.result ≡ c.args.redo.now.number = c.number.ensures.value in
    let small = c.number.ensures.bound in
    let high : get_or c.args.bounds.now c.args.redo.now.epoch 0 < c.number.result = subst (λ k. get_or c.args.bounds.now k 0 < c.number.result) place
    c.if-number-bounds.false in
    let alive = alive_within log view r.epoch r.number (get_or c.args.bounds.now r.epoch 0) inside (omega arith) (b.each r.epoch inside) in (
      λ t. absurd (let l : c.number.result ≤ get_or c.args.bounds.now c.from-epoch.result 0 = leb-true _ _ t in let h = c.if-number-bounds.false in omega arith),
      λ a. absurd (let l : c.args.redo.now.number ≤ get_or c.args.bounds.now c.args.redo.now.epoch 0 = (alive.0 a).0 in omega arith),
    )
