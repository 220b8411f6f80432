use Rattle.std.proofs.Common.{◌≡◌, arith, refl, subst, sym, rules}
use Rattle.redo_core.specs.declared.facts.Fact.{Fact}
use Rattle.redo_core.specs.declared.facts.Fact.TheVariants.{Record}
use Rattle.reference_model.proofs.Scanned.{IsSameOfKey}
use Rattle.redo_core.proofs.Scans.{whole, one_more}
use Rattle.reference_model.proofs.Scans.{record_default}
use Rattle.reference_model.proofs.Keys.{only_of_key, other_of_key}
use Rattle.reference_model.proofs.faults.is_only_record.Goals as goal
use Rattle.reference_model.proofs.faults.is_only_record.Goals.{in-Record+else-epoch, else-epoch-via-then-epoch+then-number+else-not-is_same, else-epoch-via-then-epoch+else-number, else-epoch-via-else-epoch, in_default}

pub returns-then-not-is_same : goal.returns-then-not-is_same
returns-then-not-is_same c = search (rules, other_of_key)

pub loop-fact-preserved : goal.loop-fact-preserved
loop-fact-preserved c =
    let redo = c.args.redo.now in
    let P : Fact → Type 0 = IsSameOfKey (Record redo) in
    one_more P c.args.earlier.now c.loop-fact.fact-index c.fact-item.result c.loop-fact-test.true c.fact-item.is c.loop-fact.invariant
    (elim c.match-fact.branch [
      | in-Record+else-epoch w ↦ subst P (sym w.in-Record.is) (λ key. elim w.else-epoch.branch [
        | else-epoch-via-then-epoch+then-number+else-not-is_same u ↦ (let e : w.in-Record.other ≡ redo = u.if-not-is_same.ensures.0 refl in cc)
        | else-epoch-via-then-epoch+else-number u ↦ absurd (let e : w.in-Record.other.number ≡ redo.number = key.1 in grind arith)
        | else-epoch-via-else-epoch u ↦ absurd (let e : w.in-Record.other.epoch ≡ redo.epoch = key.0 in grind arith)
      ])
      | in_default w ↦ record_default P c.fact-item.result (λ d. λ h. absurd h) (λ a. λ h. absurd h) w.in_default.not-Record
    ])

pub returns : goal.returns
returns c = (
  λ h. only_of_key c.args.earlier.now (Record c.args.redo.now)
      (whole (IsSameOfKey (Record c.args.redo.now)) c.args.earlier.now c.loop-fact.fact-index c.loop-fact-test.false c.loop-fact.invariant),
  λ h. refl,
)
