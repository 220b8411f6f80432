use Rattle.std.proofs.Common.{sym, subst, arith, ◌+◌, take}
use Rattle.redo_core.specs.Points.{RaisesPoints}
use Rattle.epoch_book.proofs.Books.{raises_one}
use Rattle.epoch_book.proofs.Raising.{counted_more, passed_more}
use Rattle.epoch_book.proofs.points.raise_each.Goals as goal
use Rattle.epoch_book.proofs.points.raise_each.Goals.{then-epoch-complete, else-epoch-complete}

pub loop-wait-preserved : goal.loop-wait-preserved
loop-wait-preserved c =
    let ws = c.args.waits.now in let i = c.loop-wait.wait-index in let x = c.wait-item.result in
    elim c.if-epoch-complete.branch [
      | then-epoch-complete w ↦
          subst (λ v. RaisesPoints c.args.complete c.args.points.now (take (i + 1) ws) v) (sym w.points-is)
          (counted_more c.args.complete c.args.points.now c.loop-wait.points w.raise.new.self ws i x c.loop-wait-test.true c.wait-item.is c.loop-wait.invariant
          (raises_one c.args.complete c.loop-wait.points w.raise.new.self x (omega arith) w.raise.ensures.count w.raise.ensures.point w.raise.ensures.others))
      | else-epoch-complete w ↦
          subst (λ v. RaisesPoints c.args.complete c.args.points.now (take (i + 1) ws) v) (sym w.points-is)
          (passed_more c.args.complete c.args.points.now c.loop-wait.points ws i x c.loop-wait-test.true c.wait-item.is (omega arith) c.loop-wait.invariant)
    ]
