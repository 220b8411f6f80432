use Rattle.std.proofs.Common.{◌≡◌, ◌+◌, ap, arith}
use Rattle.hot_log.proofs.view.BookView.awaited.Goals as goal

pub returns-in_err-key : goal.returns-in_err-key
returns-in_err-key c = rw c.from_residual.ensures (λ h. c.in_err-key.ensures.greatest h.0 h.1)

pub returns-then-complete-key : goal.returns-then-complete-key
returns-then-complete-key c =
    let t = c.in_ok-key.ensures.greatest.0 in
    let known : c.complete_epoch-complete.result ≡ c.args.self.now.book.now.complete = c.complete_epoch-complete.ensures.value in
    let same : t.0.epoch ≡ c.in_ok-key.key.epoch = t.2.0 in
    ((t.0, t.1, omega (arith, c.if-complete-key.true)), ap (λ n. n + 1) known)
