use Rattle.std.proofs.Common.{get_or, ◌-◌, arith}
use Rattle.redo_core.specs.Keys.{KeyBefore, key_in}
use Rattle.hot_log.proofs.KeySearch.{all_below}
use Rattle.hot_log.proofs.unlisted.are_below.Goals as goal

pub returns-then-place-keys : goal.returns-then-place-keys
returns-then-place-keys c = λ h.
    let low : KeyBefore (get_or c.args.keys.now (c.args.place - 1) (key_in 0 0)) c.args.key = grind arith in
    all_below c.args.keys.now c.args.place c.args.key (key_in 0 0) c.requires (omega (arith, c.if-place-eq0.false)) c.if-place-keys.true low
