use Rattle.std.proofs.Common.{◌≤◌, arith, ◌≡◌, ◌<◌, ⊎_elim, ap}
use Rattle.redo_core.specs.Data.{RecordData}
use Rattle.hot_log.proofs.view.BookView.next_of.Goals as goal

pub returns-then-number-to : goal.returns-then-number-to
returns-then-number-to c =
    let t = c.in_ok-redo.ensures.found in
    let le : c.in_ok-redo.redo.now.number ≤ c.args.to = omega (arith, c.if-number-to.true) in
    ((t.0.0.0, t.0.0.1, t.0.0.2, t.0.1, le), λ s h. t.1 s ((h.0, h.1, h.2), h.3))

pub returns-else-number-to : goal.returns-else-number-to
returns-else-number-to c r h =
    let x = c.in_ok-redo.redo.now in
    let above : c.args.to < x.number = omega (arith, c.if-number-to.false) in
    ⊎_elim
    (λ (e : r ≡ x). let same = ap (λ (y : RecordData). y.number) e in omega (arith, same, above, h.4))
    (λ (l : x.number < r.number). omega (arith, l, above, h.4))
    (c.in_ok-redo.ensures.found.1 r ((h.0, h.1, h.2), h.3))

pub returns-in_err-redo : goal.returns-in_err-redo
returns-in_err-redo c = rw c.from_residual.ensures (λ r h. c.in_err-redo.ensures.found r ((h.0, h.1, h.2), h.3))
