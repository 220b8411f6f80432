use Rattle.std.proofs.Common.{◌≡◌, ◌<◌, ◌≤◌, length, get_or, Some, sym, subst}
use Rattle.std.proofs.lemmas.Bool.{ltb-true, ltb-false}
use Rattle.epoch_book.specs.Scanning.{IsLeastAbove}
use Rattle.epoch_book.proofs.Least.{first_above, none_above}
use Rattle.epoch_book.proofs.lows.low_above.Goals as goal

pub returns : goal.returns
returns c =
    let lows = c.args.lows.now in let epoch = c.args.epoch in let place = c.count_to.result in let next = c.in_ok-next.next.now in
    let within : place < length lows = ltb-true place (length lows) (sym c.in_ok-next.ensures.lookup.0) in
    let there : next ≡ get_or lows place next = c.in_ok-next.ensures.lookup.1 in
    subst (λ lo. IsLeastAbove lows epoch (Some lo)) (sym c.lo.ensures.value)
    (first_above lows epoch place next c.requires within there c.count_to.ensures.parted)

pub returns-in_err-next : goal.returns-in_err-next
returns-in_err-next c =
    let lows = c.args.lows.now in let place = c.count_to.result in
    let past : length lows ≤ place = ltb-false place (length lows) (sym c.in_err-next.ensures.lookup.0) in
    subst (IsLeastAbove lows c.args.epoch) (sym c.from_residual.ensures) (none_above lows c.args.epoch place past c.count_to.ensures.parted)
