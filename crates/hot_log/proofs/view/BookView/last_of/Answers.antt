use Rattle.std.proofs.Common.{◌<◌, arith, ◌≡◌, ⊎_elim, ap, ◌≤◌}
use Rattle.redo_core.specs.Data.{RecordData}
use Rattle.hot_log.proofs.view.BookView.last_of.Goals as goal

pub returns-then-from-number : goal.returns-then-from-number
returns-then-from-number c =
    let t = c.in_ok-redo.ensures.found in
    let up : c.args.from < c.in_ok-redo.redo.now.number = omega (arith, c.if-from-number.true) in
    ((t.0.0.0, t.0.0.1, t.0.0.2, up, t.0.1), λ s h. t.1 s ((h.0, h.1, h.2), h.4))

pub returns-else-from-number : goal.returns-else-from-number
returns-else-from-number c r h =
    let x = c.in_ok-redo.redo.now in
    let low : x.number ≤ c.args.from = omega (arith, c.if-from-number.false) in
    ⊎_elim
    (λ (e : r ≡ x). let same = ap (λ (y : RecordData). y.number) e in omega (arith, same, low, h.3))
    (λ (l : r.number < x.number). omega (arith, l, low, h.3))
    (c.in_ok-redo.ensures.found.1 r ((h.0, h.1, h.2), h.4))

pub returns-in_err-redo : goal.returns-in_err-redo
returns-in_err-redo c = rw c.from_residual.ensures (λ r h. c.in_err-redo.ensures.found r ((h.0, h.1, h.2), h.4))
