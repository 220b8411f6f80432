use Rattle.std.proofs.Common.{inr, IsTrue, false, arith, refl, sym, subst}
use Rattle.redo_core.specs.Linked.Linked.{start}
use Rattle.reference_model.specs.Helpers.{IsLinkedWithin}
use Rattle.reference_model.proofs.Scanned.{LinksUpTo}
use Rattle.redo_core.proofs.Scans.{whole, one_more}
use Rattle.reference_model.proofs.LinkedScans.{up_record, up_default, top_linked, up_higher, top_step, within_zero}
use Rattle.reference_model.proofs.links.greatest_linked.Goals as goal
use Rattle.reference_model.proofs.links.greatest_linked.Goals.{in-Record+then-number-greatest+then-is_linked_within, in-Record+else-number-greatest, else-number-greatest-via-then-number-greatest+else-is_linked_within, else-number-greatest-via-else-number-greatest, in_default}

pub loop-fact-init : goal.loop-fact-init
loop-fact-init c = record { there = (start, within_zero c.args.limit); top = λ k d l. absurd (omega arith) }

pub loop-fact-preserved : goal.loop-fact-preserved
loop-fact-preserved c =
    let xs = c.args.facts.now in let i = c.loop-fact.fact-index in let f = c.fact-item.result in let v = c.args.view in let m = c.args.limit in
    elim c.match-fact.branch [
      | in-Record+then-number-greatest+then-is_linked_within w ↦
          record {
            there = subst (IsLinkedWithin xs v m) (sym w.greatest-is) (w.if-is_linked_within.ensures.0 refl);
            top = one_more (LinksUpTo xs v m c.match-fact.greatest) xs i f c.loop-fact-test.true c.fact-item.is
                (up_higher xs _ v m c.loop-fact.greatest c.match-fact.greatest (omega arith) c.loop-fact.invariant.top)
                (up_record xs v m c.match-fact.greatest f w.in-Record.redo w.in-Record.is (λ _. omega arith));
          }
      | in-Record+else-number-greatest w ↦ top_step xs i f v m c.loop-fact.greatest c.match-fact.greatest c.loop-fact-test.true c.fact-item.is w.greatest-is
          c.loop-fact.invariant.there c.loop-fact.invariant.top
          (up_record xs v m c.loop-fact.greatest f w.in-Record.redo w.in-Record.is (λ h. elim w.else-number-greatest.branch [
            | else-number-greatest-via-then-number-greatest+else-is_linked_within u ↦ absurd
                (let t : IsTrue false = u.if-is_linked_within.ensures.1 (subst (IsLinkedWithin xs v m) (sym w.number-number.ensures.value) h) in cc)
            | else-number-greatest-via-else-number-greatest u ↦ omega arith
          ]))
      | in_default w ↦ top_step xs i f v m c.loop-fact.greatest c.match-fact.greatest c.loop-fact-test.true c.fact-item.is w.greatest-is
          c.loop-fact.invariant.there c.loop-fact.invariant.top (up_default xs v m c.loop-fact.greatest f w.in_default.not-Record)
    ]

pub returns : goal.returns
returns c = (
  inr c.loop-fact.invariant.there,
  λ n h. top_linked c.args.facts.now c.args.view c.args.limit c.loop-fact.greatest n
      (whole (LinksUpTo c.args.facts.now c.args.view c.args.limit c.loop-fact.greatest) c.args.facts.now c.loop-fact.fact-index c.loop-fact-test.false
      c.loop-fact.invariant.top) h.0 h.1,
)
