use Rattle.std.proofs.Common.{◌≡◌, ◌+◌, Some, sym, ◌∙◌, ap, subst, refl, ◌++◌, ◌∷◌, [], false, length, arith}
use Rattle.std.specs.Prelude.{slice_get}
use Rattle.std.proofs.lemmas.Option.{slice_get_read}
use Rattle.redo_core.specs.Sound.{Law2}
use Rattle.redo_core.specs.declared.facts.Fact.TheVariants.{Record}
use Rattle.log_law.specs.Links.{AreItemsTo, IsItem}
use Rattle.log_law.proofs.Least.{more_item, no_item, same_redo}
use Rattle.log_law.proofs.links.begun_items.Goals as goal
use Rattle.log_law.proofs.links.begun_items.Goals.{in-Record+then-admits+in_ok-push, in-Record+else-admits, in_default}

pub loop-place-preserved : goal.loop-place-preserved
loop-place-preserved c =
    let log = c.args.facts.now in let p = c.loop-place.place in let f = c.index-facts-place.result in
    let at : slice_get c.args.facts.now c.loop-place.place ≡ Some f = slice_get_read log _ p f refl c.loop-place-test.true c.index-facts-place.is in
    elim c.match-fact.branch [
      | in-Record+then-admits+in_ok-push w ↦
          (let redo = w.in-Record.redo in
          let here : slice_get c.args.facts.now c.loop-place.place ≡ Some (Record redo) = at ∙ ap Some w.in-Record.is in
          let law : Law2 c.args.facts.now (Record redo) = (w.admits.ensures log redo c.requires (sym w.epoch.ensures) (sym w.number.ensures.value)).0
          w.if-admits.true in
          let it : IsItem c.args.facts.now w.item_of.result = subst (IsItem log) (sym w.item_of.ensures)
          (record { redo = redo; at = here; begun = law; epoch = refl; number = refl; page = refl; back = refl; block_back = refl }) in
          let items : c.match-fact.items.items ≡ c.loop-place.items.items ++ w.item_of.result ∷ [] = ap (λ v. v.items) w.items-is
          ∙ w.in_ok-push.ensures.items in
          subst (AreItemsTo log (p + 1)) (sym items) (more_item log p c.loop-place.items.items w.item_of.result c.loop-place.invariant it
          (ap (λ t. t.place) w.item_of.ensures)))
      | in-Record+else-admits w ↦
          (let redo = w.in-Record.redo in
          subst (λ v. AreItemsTo log (p + 1) v.items) (sym w.items-is) (no_item log p c.loop-place.items.items f c.loop-place.invariant at
          (λ r e law. let same : r ≡ redo = same_redo r redo (sym e ∙ w.in-Record.is) in
          let t = (w.admits.ensures log redo c.requires (sym w.epoch.ensures) (sym w.number.ensures.value)).1 (subst (λ x. Law2 log (Record x)) same law) in
          let f : w.admits.result ≡ false = w.if-admits.false in absurd (cc))))
      | in_default w ↦
          subst (λ v. AreItemsTo log (p + 1) v.items) (sym w.items-is)
          (no_item log p c.loop-place.items.items f c.loop-place.invariant at (λ r e law. w.in_default.not-Record r e))
    ]

pub returns : goal.returns
returns c =
    let log = c.args.facts.now in let p = c.loop-place.place in
    let ends : p ≡ length log = omega (arith, c.loop-place.auto.place-end) in
    subst (λ n. AreItemsTo log n c.loop-place.items.items) ends c.loop-place.invariant
