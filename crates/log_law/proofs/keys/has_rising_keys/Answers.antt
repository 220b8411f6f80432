use Rattle.std.proofs.Common.{◌≡◌, ◌+◌, ◌∙◌, sym, ap, subst, refl, arith, length, Some}
use Rattle.std.specs.Prelude.{slice_get}
use Rattle.std.proofs.lemmas.Option.{slice_get_read}
use Rattle.redo_core.specs.declared.facts.Fact.TheVariants.{Record}
use Rattle.redo_core.specs.declared.keys.Key.{Key}
use Rattle.log_law.proofs.InOrder.{IsAboveTo, IsLastKey, no_last, rising_more, rising_past, last_more, last_past}
use Rattle.log_law.proofs.keys.has_rising_keys.Goals as goal
use Rattle.log_law.proofs.keys.has_rising_keys.Goals.{in-Record+else-not-is_above, in_default}

pub loop-fact-init : goal.loop-fact-init
loop-fact-init c = record { rising = λ i j r s l m. absurd (omega (arith, m)); last = no_last c.args.facts.now }

pub returns-then-not-is_above : goal.returns-then-not-is_above
returns-then-not-is_above c =
    let log = c.args.facts.now in let p = c.loop-fact.fact-index in let f = c.fact-item.result in
    let at : slice_get c.args.facts.now c.loop-fact.fact-index ≡ Some f = slice_get_read log
    (length c.args.facts.now) p f refl c.loop-fact-test.true c.fact-item.is in
    let redo = c.in-Record.redo in (
      λ t. absurd (cc),
      λ rising. c.if-not-is_above.ensures.1
          ((c.loop-fact.invariant.last redo).1 (λ i r l e. rising i p r redo l c.loop-fact-test.true e (at ∙ ap Some c.in-Record.is))),
    )

pub loop-fact-preserved : goal.loop-fact-preserved
loop-fact-preserved c =
    let log = c.args.facts.now in let p = c.loop-fact.fact-index in let f = c.fact-item.result in
    let at : slice_get c.args.facts.now c.loop-fact.fact-index ≡ Some f = slice_get_read log
    (length c.args.facts.now) p f refl c.loop-fact-test.true c.fact-item.is in
    elim c.match-fact.branch [
      | in-Record+else-not-is_above w ↦
          (let redo = w.in-Record.redo in
          let here : slice_get c.args.facts.now c.loop-fact.fact-index ≡ Some (Record redo) = at ∙ ap Some w.in-Record.is in
          let above : IsAboveTo c.args.facts.now c.loop-fact.fact-index redo = (c.loop-fact.invariant.last redo).0 (w.if-not-is_above.ensures.0 refl) in
          record {
            rising = rising_more log p redo here above c.loop-fact.invariant.rising;
            last = subst (IsLastKey log (p + 1)) (sym w.last-is)
                (subst (λ (k : Key). IsLastKey log (p + 1) (Some k)) (sym w.key.ensures.value) (last_more log p redo here above));
          })
      | in_default w ↦
          record {
            rising = rising_past log p f at w.in_default.not-Record c.loop-fact.invariant.rising;
            last = subst (IsLastKey log (p + 1)) (sym w.last-is)
                (last_past log p f c.loop-fact.last at w.in_default.not-Record c.loop-fact.invariant.last);
          }
    ]

pub returns : goal.returns
returns c = (λ t i j r s l m. c.loop-fact.invariant.rising i j r s l (omega arith), λ rising. refl)
