use Rattle.hot_log.specs.Held.{HasKey}
use Rattle.segment_core.proofs.Gone.{gone_by_none, gone_by_more, gone_by_all, of_keys}
use Rattle.segment_core.proofs.savepoint.take_out.Goals as goal
use Rattle.redo_core.specs.Keys.{key_in}
use Rattle.redo_core.specs.declared.keys.Key.{Key}

pub loop-key-init : goal.loop-key-init
loop-key-init c = gone_by_none (λ (key : Key) r. HasKey key r) c.args.hot.now

pub loop-key-preserved : goal.loop-key-preserved
loop-key-preserved c =
    gone_by_more (λ (key : Key) r. HasKey key r) c.args.keys.now c.loop-key.key-index (key_in 0 0) c.args.hot.now c.loop-key.hot c.remove.new.self
    c.loop-key-test.true c.loop-key.invariant c.remove.ensures.removes

pub returns-clause-removes : goal.returns-clause-removes
returns-clause-removes c =
    of_keys c.args.keys.now c.args.hot.now c.loop-key.hot
    (gone_by_all (λ (key : Key) r. HasKey key r) c.args.keys.now c.loop-key.key-index c.args.hot.now c.loop-key.hot c.loop-key-test.false
    c.loop-key.invariant)
