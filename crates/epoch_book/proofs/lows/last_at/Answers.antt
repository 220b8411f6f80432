use Rattle.std.proofs.Common.{◌≡◌, ◌+◌, ◌<◌, ◌≤◌, length, sym, subst, arith}
use Rattle.std.specs.List.{Contains}
use Rattle.std.specs.List.Sorted.{IsPartitionPoint}
use Rattle.redo_core.specs.Data.{CutData}
use Rattle.redo_core.specs.Order.{IsGreatest}
use Rattle.epoch_book.proofs.Least.{last_place, no_place}
use Rattle.epoch_book.proofs.lows.last_at.Goals as goal

pub returns-in-Some : goal.returns-in-Some
returns-in-Some c =
    let lows = c.args.lows.now in let number = c.args.number in let place = c.in-Some.place in
    let next : c.count_at.result ≡ place + 1 = omega (arith, c.in-Some.ensures) in
    let within : place < length lows = omega (arith, c.count_at.ensures.bound) in
    subst (λ e. IsGreatest (λ e. (d : CutData) × Contains lows d × (d.epoch ≡ e) × (d.lo ≤ number)) e) (sym c.epoch.ensures.value)
    (last_place lows number place c.index-lows-place.result c.requires within c.index-lows-place.is
    (subst (IsPartitionPoint (λ d. d.lo ≤ number) (λ d. number < d.lo) lows) next c.count_at.ensures.parted))

pub returns-in-None : goal.returns-in-None
returns-in-None c =
    let lows = c.args.lows.now in let number = c.args.number in
    let none : c.count_at.result ≡ 0 = omega (arith, c.in-None.ensures) in
    no_place lows number (subst (IsPartitionPoint (λ d. d.lo ≤ number) (λ d. number < d.lo) lows) none c.count_at.ensures.parted)
