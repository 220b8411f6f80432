use Rattle.std.proofs.Common.{◌≡◌, ◌≢◌, sym, arith, subst, take}
use Rattle.std.specs.List.{Contains, All}
use Rattle.redo_core.specs.Sound.{counted}
use Rattle.reference_model.proofs.Scanned.{IsOther}
use Rattle.redo_core.proofs.Scans.{whole, one_more}
use Rattle.reference_model.proofs.Scans.{other_cut, other_default}
use Rattle.reference_model.proofs.CountedCuts.{counted_at, counted_unique, none_counted, read_cut}
use Rattle.reference_model.proofs.counted.is_counted.Goals as goal
use Rattle.reference_model.proofs.counted.is_counted.Goals.{in-Cut+else-epoch, in_default}

pub returns-then-epoch : goal.returns-then-epoch
returns-then-epoch c =
    let log = c.args.log.now in let first = c.in-Cut.first in let cut = c.args.cut.now in
    let same : first.epoch ≡ cut.epoch = omega arith in
    let counts : Contains (counted log) first = counted_at log c.loop-fact.fact-index first c.loop-fact-test.true
    (read_cut log c.loop-fact.fact-index c.fact-item.result first c.loop-fact-test.true c.fact-item.is c.in-Cut.is)
    (subst (λ e. All (IsOther e) (take c.loop-fact.fact-index log)) (sym same) c.loop-fact.invariant) in
    (λ t. subst (Contains (counted log)) (c.are_same.ensures.0 t) counts, λ h. c.are_same.ensures.1 (counted_unique log first cut counts h same))

pub loop-fact-preserved : goal.loop-fact-preserved
loop-fact-preserved c =
    one_more (IsOther c.args.cut.now.epoch) c.args.log.now c.loop-fact.fact-index c.fact-item.result c.loop-fact-test.true c.fact-item.is c.loop-fact.invariant
    (elim c.match-fact.branch [
      | in-Cut+else-epoch w ↦ other_cut c.args.cut.now.epoch c.fact-item.result w.in-Cut.first w.in-Cut.is
          (let ne : w.in-Cut.first.epoch ≢ c.args.cut.now.epoch = grind arith in ne)
      | in_default w ↦ other_default c.args.cut.now.epoch c.fact-item.result w.in_default.not-Cut
    ])

pub returns : goal.returns
returns c = (
  λ h. absurd (cc),
  λ h. absurd (none_counted c.args.log.now c.args.cut.now
      (whole (IsOther c.args.cut.now.epoch) c.args.log.now c.loop-fact.fact-index c.loop-fact-test.false c.loop-fact.invariant) h),
)
