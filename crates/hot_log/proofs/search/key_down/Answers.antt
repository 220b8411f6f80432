use Rattle.std.proofs.Common.{◌≡◌, ℕ, ◌<◌, ◌≤◌, arith}
use Rattle.redo_core.specs.Order.{PairBefore}
use Rattle.hot_log.proofs.search.key_down.Goals as goal

up_to_epoch : (e n epoch number : ℕ) → PairBefore e n epoch number → e ≤ epoch
up_to_epoch e n epoch number p = grind arith

pub returns-in-Some-clause-spares : goal.returns-in-Some-clause-spares
returns-in-Some-clause-spares c e n a p q =
    let f = c.in-Some.ensures.least.0 in
    let early : e ≤ c.args.key.epoch = up_to_epoch e n c.args.key.epoch c.args.key.number p in
    let later : c.args.key.epoch < f.0.epoch = f.2 in
    let le : n ≤ f.0.lo = a.spared f.0 f.1 (omega arith) f.3 in
    let is : f.0.lo ≡ c.in-Some.lo = f.4 in
    let up : c.in-Some.lo < n = (c.last_key_to.ensures.parts e n a).1 q in
    omega arith
