use Rattle.std.proofs.Common.{subst}
use Rattle.redo_core.specs.declared.keys.Key.{Key}
use Rattle.hot_log.specs.Kept.{KeepsKey}
use Rattle.segment_join.proofs.KeptKnown.{known_is_held}
use Rattle.segment_join.proofs.holding.is_taken.Goals as goal

pub returns-then-keeps : goal.returns-then-keeps
returns-then-keeps c = λ yes.
    let s = c.args.segment.now in let other = c.args.other.now in let r = c.args.redo.now in
    known_is_held s c.anchor.result r c.anchor.ensures.own
    (subst (λ (key : Key). KeepsKey s.book c.anchor.result key) c.key.ensures.value (c.keeps.ensures.0 c.if-keeps.true))
    (c.requires.taken c.anchor-then-keeps.result r c.anchor-then-keeps.ensures.own ((c.keeps-then-keeps.ensures c.requires.held).0 yes))
