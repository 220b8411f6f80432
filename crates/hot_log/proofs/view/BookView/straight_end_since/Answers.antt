use Rattle.std.proofs.Common.{refl}
use Rattle.hot_log.proofs.Climb.{from_zero}
use Rattle.hot_log.proofs.Ends.{climbed_none, climbed_end}
use Rattle.hot_log.proofs.view.BookView.straight_end_since.Goals as goal

pub returns-in-None-clause-some : goal.returns-in-None-clause-some
returns-in-None-clause-some c =
    let b = c.args.self.now.book.now in
    let held = c.args.self.now.held.now in
    let e = c.in-None.ensures in
    climbed_end b held c.args.from c.args.from e.form (climbed_none b held c.args.from)
    (λ r h q. e.none refl r h q (from_zero held r e.form h.0))

pub straight_walk-requires-clause-first : goal.straight_walk-requires-clause-first
straight_walk-requires-clause-first c = c.in-Some.ensures.some
