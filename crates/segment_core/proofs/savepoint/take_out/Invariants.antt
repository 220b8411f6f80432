use Rattle.std.proofs.Common.{take}
use Rattle.hot_log.specs.Held.{HasKey}
use Rattle.segment_core.proofs.Gone.{GoneBy}
use Rattle.segment_core.proofs.savepoint.take_out.Given as goal
use Rattle.redo_core.specs.declared.keys.Key.{Key}

-- the records of the keys so far are gone
abbrev pub invariant-loop-key : goal.invariant-loop-key
invariant-loop-key l = GoneBy (λ (key : Key) r. HasKey key r) (take l.key-index l.keys) l.fn.hot l.hot
