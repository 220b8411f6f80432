use Rattle.std.proofs.Common.{◌≡◌, ◌+◌, ◌-◌, ◌<◌, ◌≤◌, length, get_or, subst, arith, refl}
use Rattle.redo_core.specs.Roster.{least}
use Rattle.redo_core.proofs.Points.{least_le}
use Rattle.read_cache.proofs.cached.is_reached.Goals as goal

pub returns-then-own-point : goal.returns-then-own-point
returns-then-own-point c = λ yes.
    let ps = c.args.points.now in let i = c.loop-own.own-index in
    let inside : i < length ps = c.loop-own-test.true in
    let low : least ps ≤ get_or ps i 0 =
    subst (λ j. least ps ≤ get_or ps j 0) (let t : i + 1 - 1 ≡ i = omega arith in t) (least_le (length ps) ps (i + 1) refl (omega arith, omega (arith, inside))) in
    let own = c.if-own-point.true in omega (arith, low, own)
