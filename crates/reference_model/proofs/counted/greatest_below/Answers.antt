use Rattle.std.proofs.Common.{◌≡◌, inr, subst, arith, refl, IsTrue, false, rules}
use Rattle.redo_core.specs.Sound.{IsAliveBelow}
use Rattle.reference_model.specs.Chained.{Follows}
use Rattle.reference_model.proofs.Scanned.{IsBelowUpTo}
use Rattle.redo_core.proofs.Scans.{whole, one_more}
use Rattle.reference_model.proofs.LinkedScans.{record_item}
use Rattle.reference_model.proofs.CountedScans.{alive_below, top_below, higher_below, below_record, below_default, below_step}
use Rattle.reference_model.proofs.counted.greatest_below.Goals as goal
use Rattle.reference_model.proofs.counted.greatest_below.Goals.{in-Record+then-number-greatest+then-is_below_on, in-Record+else-number-greatest, else-number-greatest-via-then-number-greatest+else-is_below_on, else-number-greatest-via-else-number-greatest, in_default}

pub loop-fact-preserved : goal.loop-fact-preserved
loop-fact-preserved c =
    let xs = c.args.log.now in let r = c.args.redo.now in let chain = c.args.chain in let i = c.loop-fact.fact-index in let f = c.fact-item.result in
    elim c.match-fact.branch [
      | in-Record+then-number-greatest+then-is_below_on w ↦
          let s = w.in-Record.other in
          let new : s.number ≡ c.match-fact.greatest = omega arith in
          record {
            there = inr (subst (IsAliveBelow xs r (Follows chain r)) new
                (alive_below xs r chain s (record_item xs i f s c.loop-fact-test.true c.fact-item.is w.in-Record.is) (w.if-is_below_on.ensures.0 refl)));
            top = one_more (IsBelowUpTo xs r chain c.match-fact.greatest) xs i f c.loop-fact-test.true c.fact-item.is
                (higher_below xs _ r chain c.loop-fact.greatest c.match-fact.greatest (omega arith) c.loop-fact.invariant.top)
                (below_record xs r chain c.match-fact.greatest f s w.in-Record.is (λ _. omega arith));
          }
      | in-Record+else-number-greatest w ↦ below_step xs i f r chain c.loop-fact.greatest c.match-fact.greatest c.loop-fact-test.true c.fact-item.is
          w.greatest-is c.loop-fact.invariant.there c.loop-fact.invariant.top
          (below_record xs r chain c.loop-fact.greatest f w.in-Record.other w.in-Record.is (λ h. elim w.else-number-greatest.branch [
            | else-number-greatest-via-then-number-greatest+else-is_below_on u ↦ absurd (let t : IsTrue false = u.if-is_below_on.ensures.1 h in cc)
            | else-number-greatest-via-else-number-greatest u ↦ omega arith
          ]))
      | in_default w ↦ below_step xs i f r chain c.loop-fact.greatest c.match-fact.greatest c.loop-fact-test.true c.fact-item.is w.greatest-is
          c.loop-fact.invariant.there c.loop-fact.invariant.top (below_default xs r chain c.loop-fact.greatest f w.in_default.not-Record)
    ]

pub returns : goal.returns
returns c = search (rules, top_below, whole)
