use Rattle.std.proofs.Common.{◌≢◌, arith, refl}
use Rattle.redo_core.proofs.Scans.{whole, one_more}
use Rattle.reference_model.proofs.Scans.{cut_item, no_cut, other_cut, other_default}
use Rattle.reference_model.proofs.Scanned.{IsOther}
use Rattle.reference_model.proofs.epochs.has_cut.Goals as goal
use Rattle.reference_model.proofs.epochs.has_cut.Goals.{in-Cut+else-from-epoch, in_default}

pub returns-then-from-epoch-clause-found : goal.returns-then-from-epoch-clause-found
returns-then-from-epoch-clause-found c = (
  λ _. (c.in-Cut.cut, cut_item c.args.facts.now c.loop-fact.fact-index c.fact-item.result c.in-Cut.cut c.loop-fact-test.true c.fact-item.is c.in-Cut.is, cc),
  λ _. refl,
)

pub returns-clause-found : goal.returns-clause-found
returns-clause-found c = (
  λ h. absurd (cc),
  λ h. absurd
      (no_cut c.args.facts.now c.args.epoch (whole (IsOther c.args.epoch) c.args.facts.now c.loop-fact.fact-index c.loop-fact-test.false c.loop-fact.invariant)
      h),
)

pub loop-fact-preserved : goal.loop-fact-preserved
loop-fact-preserved c =
    one_more (IsOther c.args.epoch) c.args.facts.now c.loop-fact.fact-index c.fact-item.result c.loop-fact-test.true c.fact-item.is c.loop-fact.invariant
    (elim c.match-fact.branch [
      | in-Cut+else-from-epoch w ↦ other_cut c.args.epoch c.fact-item.result w.in-Cut.cut w.in-Cut.is
          (let ne : w.in-Cut.cut.epoch ≢ c.args.epoch = grind arith in ne)
      | in_default w ↦ other_default c.args.epoch c.fact-item.result w.in_default.not-Cut
    ])
