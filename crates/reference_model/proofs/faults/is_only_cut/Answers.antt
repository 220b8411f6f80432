use Rattle.std.proofs.Common.{◌≡◌, arith, refl, subst, sym, rules}
use Rattle.redo_core.specs.declared.facts.Fact.{Fact}
use Rattle.redo_core.specs.declared.facts.Fact.TheVariants.{Cut}
use Rattle.reference_model.proofs.Scanned.{IsSameOfKey}
use Rattle.redo_core.proofs.Scans.{whole, one_more}
use Rattle.reference_model.proofs.Scans.{cut_default}
use Rattle.reference_model.proofs.Keys.{only_of_key, other_of_key}
use Rattle.reference_model.proofs.faults.is_only_cut.Goals as goal
use Rattle.reference_model.proofs.faults.is_only_cut.Goals.{in-Cut+else-epoch, else-epoch-via-then-epoch+else-not-are_same, else-epoch-via-else-epoch, in_default}

pub returns-then-not-are_same-clause-law : goal.returns-then-not-are_same-clause-law
returns-then-not-are_same-clause-law c = search (rules, other_of_key)

pub loop-fact-preserved : goal.loop-fact-preserved
loop-fact-preserved c =
    let cut = c.args.cut.now in
    let P : Fact → Type 0 = IsSameOfKey (Cut cut) in
    one_more P c.args.earlier.now c.loop-fact.fact-index c.fact-item.result c.loop-fact-test.true c.fact-item.is c.loop-fact.invariant
    (elim c.match-fact.branch [
      | in-Cut+else-epoch w ↦ subst P (sym w.in-Cut.is) (λ key. elim w.else-epoch.branch [
        | else-epoch-via-then-epoch+else-not-are_same u ↦ (let e : w.in-Cut.other ≡ cut = u.if-not-are_same.ensures.0 refl in cc)
        | else-epoch-via-else-epoch u ↦ absurd (let e : w.in-Cut.other.epoch ≡ cut.epoch = key in grind arith)
      ])
      | in_default w ↦ cut_default P c.fact-item.result (λ r. λ h. absurd h) (λ a. λ h. absurd h) w.in_default.not-Cut
    ])

pub returns-clause-law : goal.returns-clause-law
returns-clause-law c = (
  λ h. only_of_key c.args.earlier.now (Cut c.args.cut.now)
      (whole (IsSameOfKey (Cut c.args.cut.now)) c.args.earlier.now c.loop-fact.fact-index c.loop-fact-test.false c.loop-fact.invariant),
  λ h. refl,
)
