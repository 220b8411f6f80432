use Rattle.std.proofs.Common.{◌≡◌, get_or, rules}
use Rattle.std.proofs.lemmas.List.{get_or_default}
use Rattle.segment_join.specs.Covering.{HasAt}
use Rattle.segment_core.proofs.Scanning.{one_fails, all_pass, next_passes}
use Rattle.segment_join.proofs.covering.has_keys.Goals as goal
use Rattle.redo_core.specs.Keys.{key_in}
use Rattle.redo_core.specs.declared.keys.Key.{Key}

pub loop-key-preserved : goal.loop-key-preserved
loop-key-preserved c =
    let keys = c.args.keys.now in let i = c.loop-key.key-index in let key : Key = get_or keys i (key_in 0 0) in
    let is : key ≡ get_or keys i key = get_or_default keys i (key_in 0 0) key c.loop-key-test.true in
    next_passes (HasAt c.args.upper.now c.args.anchor c.args.lower.now) keys i key c.has_at.result c.loop-key-test.true is c.if-not-has_at.false c.has_at.ensures
    c.loop-key.invariant

pub returns-then-not-has_at : goal.returns-then-not-has_at
returns-then-not-has_at c = search (rules, one_fails)

pub returns : goal.returns
returns c = search (rules, all_pass)
