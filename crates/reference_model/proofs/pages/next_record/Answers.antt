use Rattle.std.proofs.Common.{refl, sym, subst, arith, IsTrue, false}
use Rattle.reference_model.proofs.Scanned.{IsReached}
use Rattle.redo_core.proofs.Scans.{whole}
use Rattle.reference_model.proofs.Scans.{record_default}
use Rattle.reference_model.proofs.PageScans.{FoundUpTo, found_up_to, found_next, seen_new, seen_more}
use Rattle.reference_model.proofs.pages.next_record.Goals as goal
use Rattle.reference_model.proofs.pages.next_record.Goals.{in-Record+then-stands_in_page+then-number-from+then-is_before, in-Record+else-stands_in_page, else-stands_in_page-via-then-stands_in_page+then-number-from+else-is_before, else-stands_in_page-via-then-stands_in_page+else-number-from, else-stands_in_page-via-else-stands_in_page, in_default}

pub loop-fact-init : goal.loop-fact-init
loop-fact-init c = record { best = tt; least = λ k d l. absurd (omega arith) }

pub loop-fact-preserved : goal.loop-fact-preserved
loop-fact-preserved c =
    let xs = c.args.facts.now in let k = c.args.view in let g = c.args.page in let from = c.args.from in let q = c.args.point in
    let i = c.loop-fact.fact-index in let f = c.fact-item.result in let old = c.loop-fact.next in
    elim c.match-fact.branch [
      | in-Record+then-stands_in_page+then-number-from+then-is_before w ↦
          seen_new (λ r. r.now) xs k g from q i f w.in-Record.redo old c.match-fact.next _ c.loop-fact-test.true c.fact-item.is w.in-Record.is w.next-is refl
          (w.if-stands_in_page.ensures.0 refl) (omega arith) (w.if-is_before.ensures.0 refl) c.loop-fact.invariant
      | in-Record+else-stands_in_page w ↦
          seen_more (λ r. r.now) xs k g from q i f old c.match-fact.next c.loop-fact-test.true c.fact-item.is w.next-is
          (subst (IsReached xs k g from q (FoundUpTo (λ r. r.now) old)) (sym w.in-Record.is) (λ s above. elim w.else-stands_in_page.branch [
            | else-stands_in_page-via-then-stands_in_page+then-number-from+else-is_before u ↦ found_up_to (λ r. r.now) old w.in-Record.redo.number
                (λ h. let t : IsTrue false = u.if-is_before.ensures.1 h in cc)
            | else-stands_in_page-via-then-stands_in_page+else-number-from u ↦ absurd (omega arith)
            | else-stands_in_page-via-else-stands_in_page u ↦ absurd (let t : IsTrue false = u.if-stands_in_page.ensures.1 s in cc)
          ])) c.loop-fact.invariant
      | in_default w ↦
          seen_more (λ r. r.now) xs k g from q i f old c.match-fact.next c.loop-fact-test.true c.fact-item.is w.next-is
          (record_default (IsReached xs k g from q (FoundUpTo (λ r. r.now) old)) f (λ d. tt) (λ a. tt) w.in_default.not-Record) c.loop-fact.invariant
    ]

pub returns : goal.returns
returns c = found_next (λ r. r.now) c.args.facts.now c.args.view c.args.page c.args.from c.args.point c.loop-fact.next c.loop-fact.invariant.best
    (whole (IsReached c.args.facts.now c.args.view c.args.page c.args.from c.args.point (FoundUpTo (λ r. r.now) c.loop-fact.next)) c.args.facts.now
    c.loop-fact.fact-index c.loop-fact-test.false c.loop-fact.invariant.least)
