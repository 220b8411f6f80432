use Rattle.std.proofs.Common.{rules, arith, ◌∙◌, sym, ap, inl, inr, Some}
use Rattle.redo_core.specs.declared.facts.Fact.{Fact}
use Rattle.redo_core.specs.declared.facts.Fact.TheVariants.{Cut, Advance}
use Rattle.named_log.specs.Soundness.Sound.{at_epoch_0, at_advance, at_cut, at_epoch_1, at_outside}
use Rattle.named_log.proofs.drill_facts.fact_at_place.Goals as goal
use Rattle.named_log.proofs.drill_facts.fact_at_place.Goals.{then-place-eq0-via-then-place-eq0, then-place-eq0-via-else-place-eq0+then-place-size}

pub returns-then-place-eq0 : goal.returns-then-place-eq0
returns-then-place-eq0 c = sym (at_outside c.args.size c.args.place c.requires.0 c.requires.1
    (elim c.then-place-eq0.branch [
      | then-place-eq0-via-then-place-eq0 w ↦ inl (search rules)
      | then-place-eq0-via-else-place-eq0+then-place-size w ↦ inr
          (search rules)
    ]))

pub returns-then-place-size-2 : goal.returns-then-place-size-2
returns-then-place-size-2 c = let p = c.if-place-eq0.false in let u = c.if-place-size-2.true in ap (λ (f : Fact). Some f) c.in_ok-first_epoch_record.ensures
    ∙ sym (at_epoch_0 c.args.size c.args.place c.requires.0 c.requires.1 (omega (arith, p)) (omega (arith, u)))

pub returns-then-place-size-3 : goal.returns-then-place-size-3
returns-then-place-size-3 c = let u = c.if-place-size-3.true in ap (λ a. Some (Advance a)) c.advance.ensures ∙ sym
    (at_advance c.args.size c.args.place c.requires.0 c.requires.1 (omega (arith, u)))

pub returns-then-place-size-4 : goal.returns-then-place-size-4
returns-then-place-size-4 c = let u = c.if-place-size-4.true in ap (λ a. Some (Cut a)) c.cut.ensures ∙ sym
    (at_cut c.args.size c.args.place c.requires.0 c.requires.1 (omega (arith, u)))

pub returns : goal.returns
returns c =
    let a = c.if-place-size.false in
    let u = c.if-place-size-2.false in
    let v = c.if-place-size-3.false in
    let w = c.if-place-size-4.false in
    ap (λ (f : Fact). Some f) c.in_ok-second_epoch_record.ensures ∙ sym
    (at_epoch_1 c.args.size c.args.place c.requires.0 c.requires.1 (omega (arith, u, v, w)) (omega (arith, a)))
