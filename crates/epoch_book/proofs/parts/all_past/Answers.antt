use Rattle.std.proofs.Common.{◌<◌, ◌+◌, ⊎_elim, arith}
use Rattle.redo_core.specs.Roster.{point_of}
use Rattle.redo_core.specs.Past.{IsPast}
use Rattle.epoch_book.proofs.parts.all_past.Goals as goal

pub returns-then-not-is_past : goal.returns-then-not-is_past
returns-then-not-is_past c =
    let points = c.args.points.now in let waits = c.args.waits.now in let cut = c.args.cut in let place = c.loop-place.place in (
      λ t. absurd (grind (arith, t)),
      λ past. ⊎_elim
          (λ (high : cut.lo < point_of points (place + 1)). absurd (grind (arith, high)))
          (λ (given : IsPast waits cut (place + 1)). let t = c.is_past.ensures.1 given in absurd (grind (arith, t)))
          (past (place + 1) (omega arith, omega arith) (grind arith)),
    )
