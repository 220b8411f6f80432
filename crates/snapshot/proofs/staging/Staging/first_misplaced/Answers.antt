use Rattle.std.proofs.Common.{refl, sym, arith}
use Rattle.snapshot.proofs.Placed.{head_bad, head_cannot, some_total, of_parts}
use Rattle.snapshot.proofs.staging.Staging.first_misplaced.Goals as goal

pub returns-in_default : goal.returns-in_default
returns-in_default c = head_bad c.args.self.now (some_total c.args.self.now c.in_default.ensures.form c.requires) (λ can. c.in_default.ensures.none refl can.0 can.1 can.2)

pub returns-then-is_contradicted : goal.returns-then-is_contradicted
returns-then-is_contradicted c =
    let b = c.in-Some.book.now in
    head_bad c.args.self.now c.in-Some.ensures.total (head_cannot c.args.self.now b c.in-Some.anchor c.in-Some.ensures.some
    (of_parts c.cuts.result.now b.cuts c.complete.result b.complete c.points.result.now b.points c.waits.result.now b.waits
    c.cuts.ensures.cuts c.complete.ensures.complete c.points.ensures.points c.waits.ensures.waits (c.if-is_contradicted.ensures.0 refl)))

pub first_not_following-requires-clause-first : goal.first_not_following-requires-clause-first
first_not_following-requires-clause-first c =
    let b = c.in-Some.book.now in (
      b,
      c.in-Some.anchor,
      c.in-Some.ensures.some,
      λ wrong. absurd (
          let t = c.is_contradicted.ensures.1
          (of_parts b.cuts c.cuts.result.now b.complete c.complete.result b.points c.points.result.now b.waits c.waits.result.now
          (sym c.cuts.ensures.cuts) (sym c.complete.ensures.complete) (sym c.points.ensures.points) (sym c.waits.ensures.waits) wrong) in
          grind (arith, t, c.if-is_contradicted.false)),
    )
