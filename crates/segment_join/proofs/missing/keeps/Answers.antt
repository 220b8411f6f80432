use Rattle.std.proofs.Common.{sym, subst}
use Rattle.hot_log.specs.Kept.{KeepsKey}
use Rattle.segment_join.proofs.missing.keeps.Goals as goal

pub returns : goal.returns
returns c =
    let book = c.args.segment.now.book in λ has. (
      λ t. (has, subst (KeepsKey book c.args.point) c.key.ensures.value (c.keeps.ensures.0 t)),
      λ kept. c.keeps.ensures.1 (subst (KeepsKey book c.args.point) (sym c.key.ensures.value) kept.1),
    )
