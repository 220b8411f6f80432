use Rattle.std.proofs.Common.{get_or, arith}
use Rattle.redo_core.specs.Keys.{KeyBefore, key_in}
use Rattle.hot_log.proofs.KeySearch.{all_above}
use Rattle.hot_log.proofs.unlisted.are_above.Goals as goal

pub returns-else-place-keys : goal.returns-else-place-keys
returns-else-place-keys c = λ h.
    let high : KeyBefore c.args.key (get_or c.args.keys.now c.args.place (key_in 0 0)) = grind arith in
    all_above c.args.keys.now c.args.place c.args.key (key_in 0 0) c.requires c.if-place-keys.false high
