use Rattle.std.proofs.Common.{inl, rules}
use Rattle.hot_log.specs.Kept.{KeepsKey}
use Rattle.segment_join.proofs.Keeping.{wanted_is_held, of_key}
use Rattle.segment_join.proofs.covering.has_at.Goals as goal

pub returns-then-not-keeps : goal.returns-then-not-keeps
returns-then-not-keeps c = search rules

pub returns : goal.returns
returns c =
    let s = c.args.upper.now in
    let wanted : KeepsKey s.book c.args.anchor c.args.key = c.keeps.ensures.0 c.if-not-keeps.false in (
      λ h r has is. inl (c.holds_at.ensures.0 h r has is, (of_key s c.args.anchor c.args.key r is).0 wanted),
      λ each. c.holds_at.ensures.1 (λ r has is. wanted_is_held s c.args.anchor r ((of_key s c.args.anchor c.args.key r is).0 wanted) (each r has is)),
    )
