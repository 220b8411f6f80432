use Rattle.std.proofs.Common.{IsTrue, false, arith, refl, sym, subst}
use Rattle.redo_core.specs.Sets.{cuts}
use Rattle.redo_core.specs.Linked.{IsLinked}
use Rattle.redo_core.specs.Standing.{IsAlive}
use Rattle.redo_core.specs.Linked.Linked.{start}
use Rattle.reference_model.proofs.Scanned.{LinksNot}
use Rattle.redo_core.proofs.Scans.{whole, one_more}
use Rattle.reference_model.proofs.LinkedScans.{record_item, link, links_not_record, links_not_default, no_link}
use Rattle.reference_model.proofs.links.+is_linked.Goals as goal
use Rattle.reference_model.proofs.links.+is_linked.Goals.{in-Record+then-number+then-is_alive+else-is_linked, in-Record+else-number, else-number-via-then-number+else-is_alive, else-number-via-else-number, in_default}

pub returns-then-number-eq0 : goal.returns-then-number-eq0
returns-then-number-eq0 t c = (λ h. subst (IsLinked c.args.facts.now c.args.view) (sym c.if-number-eq0.true) start, λ h. refl)

pub returns-then-is_linked : goal.returns-then-is_linked
returns-then-is_linked t c = (
  λ h. link c.args.facts.now c.args.view c.args.number c.in-Record.redo
      (record_item c.args.facts.now c.loop-fact.fact-index c.fact-item.result c.in-Record.redo c.loop-fact-test.true c.fact-item.is c.in-Record.is) (cc)
      (omega arith) (subst (λ e. IsAlive (cuts c.args.facts.now) c.args.view e c.args.number) c.epoch.ensures (c.if-is_alive.ensures.0 refl))
      (subst (IsLinked c.args.facts.now c.args.view) c.back.ensures.value (c.if-is_linked.ensures.0 refl)),
  λ h. refl,
)

pub loop-fact-preserved : goal.loop-fact-preserved
loop-fact-preserved t c =
    one_more (LinksNot c.args.facts.now c.args.view c.args.number) c.args.facts.now c.loop-fact.fact-index c.fact-item.result c.loop-fact-test.true
    c.fact-item.is c.loop-fact.invariant
    (elim c.match-fact.branch [
      | in-Record+then-number+then-is_alive+else-is_linked w ↦ links_not_record c.args.facts.now c.args.view c.args.number c.fact-item.result w.in-Record.redo
          w.in-Record.is (λ e a l. let t : IsTrue false = w.if-is_linked.ensures.1
          (subst (IsLinked c.args.facts.now c.args.view) (sym w.back.ensures.value) l) in absurd (cc))
      | in-Record+else-number w ↦ links_not_record c.args.facts.now c.args.view c.args.number c.fact-item.result w.in-Record.redo w.in-Record.is
          (λ e a l. elim w.else-number.branch [
            | else-number-via-then-number+else-is_alive v ↦ (let t : IsTrue false = v.if-is_alive.ensures.1
                (subst (λ e. IsAlive (cuts c.args.facts.now) c.args.view e c.args.number) (sym v.epoch.ensures) a) in absurd (cc))
            | else-number-via-else-number v ↦ absurd (grind arith)
          ])
      | in_default w ↦ links_not_default c.args.facts.now c.args.view c.args.number c.fact-item.result w.in_default.not-Record
    ])

pub returns : goal.returns
returns t c = (
  λ h. absurd (cc),
  λ h. absurd (no_link c.args.facts.now c.args.view c.args.number
      (whole (LinksNot c.args.facts.now c.args.view c.args.number) c.args.facts.now c.loop-fact.fact-index c.loop-fact-test.false c.loop-fact.invariant)
      c.if-number-eq0.false h),
)
