use Rattle.std.proofs.Common.{◌≡◌, sym, subst}
use Rattle.redo_core.specs.Data.{RecordData}
use Rattle.hot_log.specs.Alive.{IsHeldAlive}
use Rattle.hot_log.specs.Found.{IsLeast}
use Rattle.hot_log.proofs.Climb.{from_zero, least_number}
use Rattle.hot_log.proofs.view.BookView.next_after.Goals as goal

pub returns-in_err-key : goal.returns-in_err-key
returns-in_err-key c =
    let b = c.args.self.now.book.now in let held = c.args.self.now.held.now in
    let e = c.in_err-key.ensures in
    subst (λ o. IsLeast (λ n. (r : RecordData) × IsHeldAlive b held r × (r.back ≡ c.args.back) × (r.number ≡ n)) o) (sym c.from_residual.ensures)
    (λ n h. e.found h.0 h.1 h.2 (from_zero held h.0 e.form h.1.0))

pub returns : goal.returns
returns c =
    let b = c.args.self.now.book.now in let held = c.args.self.now.held.now in
    let e = c.in_ok-key.ensures in
    let t = e.found.0 in (
      (t.0, t.1, t.2, t.3.1),
      λ n h. least_number b held t.0 h.0 c.in_ok-key.key n e.book t.3 t.1.1 h.1.1 h.3 (e.found.1 h.0 h.1 h.2 (from_zero held h.0 e.form h.1.0)),
    )
