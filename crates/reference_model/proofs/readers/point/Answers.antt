use Rattle.std.proofs.Common.{◌≡◌, ◌≤◌, inr, sym, arith, rules}
use Rattle.reference_model.proofs.Scanned.{IsUpTo}
use Rattle.redo_core.proofs.Scans.{whole, one_more}
use Rattle.reference_model.proofs.Scans.{up_to, higher, up_advance, advance_default, advance_item, point_step}
use Rattle.reference_model.proofs.readers.point.Goals as goal
use Rattle.reference_model.proofs.readers.point.Goals.{in-Advance+then-reader+then-epoch+then-point-greatest, in-Advance+else-reader, else-reader-via-then-reader+then-epoch+else-point-greatest, else-reader-via-then-reader+else-epoch, else-reader-via-else-reader, in_default}

pub returns : goal.returns
returns c = search (rules, up_to, whole)

pub loop-fact-preserved : goal.loop-fact-preserved
loop-fact-preserved c =
    let xs = c.args.facts.now in let i = c.loop-fact.fact-index in let f = c.fact-item.result in let e = c.args.epoch in let reader = c.args.reader in
    elim c.match-fact.branch [
      | in-Advance+then-reader+then-epoch+then-point-greatest w ↦
          let new : c.match-fact.greatest ≡ w.in-Advance.advance.point = cc in
          let inside : w.in-Advance.advance.epoch ≤ c.args.epoch = omega arith in
          let own : w.in-Advance.advance.reader ≡ c.args.reader = omega arith in
          record {
            there = inr (
              w.in-Advance.advance,
              advance_item xs i f w.in-Advance.advance c.loop-fact-test.true c.fact-item.is w.in-Advance.is,
              inside,
              own,
              sym new,
            );
            top = one_more (IsUpTo e reader c.match-fact.greatest) xs i f c.loop-fact-test.true c.fact-item.is
                (higher _ e reader c.loop-fact.greatest c.match-fact.greatest (omega arith) c.loop-fact.invariant.top)
                (up_advance e reader c.match-fact.greatest f w.in-Advance.advance w.in-Advance.is (λ _ _. omega arith));
          }
      | in-Advance+else-reader w ↦ point_step xs i f e reader c.loop-fact.greatest c.match-fact.greatest c.loop-fact-test.true c.fact-item.is w.greatest-is
          c.loop-fact.invariant.there c.loop-fact.invariant.top
          (up_advance e reader c.loop-fact.greatest f w.in-Advance.advance w.in-Advance.is (λ own inside. elim w.else-reader.branch [
            | else-reader-via-then-reader+then-epoch+else-point-greatest v ↦ omega arith
            | else-reader-via-then-reader+else-epoch v ↦ omega arith
            | else-reader-via-else-reader v ↦ absurd (grind arith)
          ]))
      | in_default w ↦ point_step xs i f e reader c.loop-fact.greatest c.match-fact.greatest c.loop-fact-test.true c.fact-item.is w.greatest-is
          c.loop-fact.invariant.there c.loop-fact.invariant.top
          (advance_default (IsUpTo e reader c.loop-fact.greatest) f (λ r. tt) (λ d. tt) w.in_default.not-Advance)
    ]
