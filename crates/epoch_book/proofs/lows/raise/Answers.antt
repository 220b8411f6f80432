use Rattle.std.proofs.Common.{◌≡◌, subst, arith}
use Rattle.epoch_book.specs.Lows.{AreLows}
use Rattle.epoch_book.proofs.lows.raise.Goals as goal

pub returns-clause-ok : goal.returns-clause-ok
returns-clause-ok c =
    let end : c.loop-epoch.epoch ≡ c.args.complete = omega (arith, c.loop-epoch.auto.epoch-end c.requires.later, c.loop-epoch-test.false) in
    subst (λ k. AreLows c.args.cuts.now k c.loop-epoch.lows.items) end c.loop-epoch.invariant.lows
