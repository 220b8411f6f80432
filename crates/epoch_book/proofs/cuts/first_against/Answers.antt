use Rattle.std.proofs.Common.{refl}
use Rattle.redo_core.specs.Order.{CutBefore}
use Rattle.epoch_book.specs.Refusing.{CutsBelow}
use Rattle.epoch_book.proofs.Rising.{first_place}
use Rattle.redo_core.proofs.Scans.{whole, one_more}
use Rattle.epoch_book.proofs.cuts.first_against.Goals as goal

pub returns-then-cuts_below-clause-first : goal.returns-then-cuts_below-clause-first
returns-then-cuts_below-clause-first c =
    first_place CutBefore (λ x. CutsBelow c.args.complete c.args.points.now c.args.waits.now x c.args.advance) c.args.cuts.now c.loop-cut.cut-index
    c.cut-item.result c.requires.rising c.loop-cut-test.true c.cut-item.is (c.if-cuts_below.ensures.0 refl) c.loop-cut.invariant

pub loop-cut-preserved : goal.loop-cut-preserved
loop-cut-preserved c =
    one_more (λ x. CutsBelow c.args.complete c.args.points.now c.args.waits.now x c.args.advance → ⊥) c.args.cuts.now c.loop-cut.cut-index c.cut-item.result
    c.loop-cut-test.true c.cut-item.is c.loop-cut.invariant
    (λ h. absurd (let t = c.if-cuts_below.ensures.1 h in cc))

pub returns-clause-none : goal.returns-clause-none
returns-clause-none c = λ _. whole (λ x. CutsBelow c.args.complete c.args.points.now c.args.waits.now x c.args.advance → ⊥) c.args.cuts.now c.loop-cut.cut-index
    c.loop-cut-test.false c.loop-cut.invariant
