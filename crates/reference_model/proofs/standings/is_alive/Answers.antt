use Rattle.std.proofs.Common.{IsTrue, false, refl, rules}
use Rattle.redo_core.specs.Sets.{cuts}
use Rattle.reference_model.proofs.Scanned.{IsSpared}
use Rattle.redo_core.proofs.Scans.{whole, one_more}
use Rattle.reference_model.proofs.Scans.{cut_item}
use Rattle.reference_model.proofs.LinkedScans.{spared_cut, spared_default, all_spare, spares_of}
use Rattle.reference_model.proofs.standings.is_alive.Goals as goal
use Rattle.reference_model.proofs.standings.is_alive.Goals.{in-Cut+else-not-spares, in_default}

pub returns-then-not-spares : goal.returns-then-not-spares
returns-then-not-spares c = (
  λ h. absurd (cc),
  λ a. let s = spares_of (cuts c.args.facts.now) c.args.view c.args.epoch c.args.number c.in-Cut.cut
      (cut_item c.args.facts.now c.loop-fact.fact-index c.fact-item.result c.in-Cut.cut c.loop-fact-test.true c.fact-item.is c.in-Cut.is) a in
      let t : IsTrue false = c.if-not-spares.ensures.1 s in t,
)

pub loop-fact-preserved : goal.loop-fact-preserved
loop-fact-preserved c =
    one_more (IsSpared c.args.view c.args.epoch c.args.number) c.args.facts.now c.loop-fact.fact-index c.fact-item.result c.loop-fact-test.true c.fact-item.is
    c.loop-fact.invariant
    (elim c.match-fact.branch [
      | in-Cut+else-not-spares w ↦ spared_cut c.args.view c.args.epoch c.args.number c.fact-item.result w.in-Cut.cut w.in-Cut.is
          (w.if-not-spares.ensures.0 refl)
      | in_default w ↦ spared_default c.args.view c.args.epoch c.args.number c.fact-item.result w.in_default.not-Cut
    ])

pub returns : goal.returns
returns c = search (rules, all_spare, whole)
