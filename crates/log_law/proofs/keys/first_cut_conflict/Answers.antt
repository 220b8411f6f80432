use Rattle.std.proofs.Common.{◌≡◌, ◌∙◌, sym, ap, subst, refl, length, Some, rules}
use Rattle.std.specs.Prelude.{slice_get}
use Rattle.std.proofs.lemmas.Option.{slice_get_read}
use Rattle.redo_core.specs.declared.facts.Fact.TheVariants.{Cut}
use Rattle.log_law.specs.Counted.{first_cut}
use Rattle.log_law.proofs.InOrder.{law1_rising}
use Rattle.log_law.proofs.Repeats.{kept_more, law1_first, law1_later, first_more, none_further}
use Rattle.log_law.proofs.keys.first_cut_conflict.Goals as goal
use Rattle.log_law.proofs.keys.first_cut_conflict.Goals.{in-Cut+else-not-counts, in_default}

pub returns-then-not-counts : goal.returns-then-not-counts
returns-then-not-counts c = search (rules, slice_get_read, law1_later)

pub loop-place-preserved : goal.loop-place-preserved
loop-place-preserved c =
    let log = c.args.facts.now in let p = c.loop-place.place in let f = c.index-facts-place.result in
    let at : slice_get c.args.facts.now c.loop-place.place ≡ Some f = slice_get_read log
    (length c.args.facts.now) p f refl c.loop-place-test.true c.index-facts-place.is in
    let inv = c.loop-place.invariant in
    elim c.match-fact.branch [
      | in-Cut+else-not-counts w ↦
          (let cut = w.in-Cut.cut in
          let here : slice_get c.args.facts.now c.loop-place.place ≡ Some (Cut cut) = at ∙ ap Some w.in-Cut.is in
          let counts : first_cut c.args.facts.now cut.epoch ≡ Some cut = sym (c.requires.cuts.table.at cut.epoch) ∙ w.if-not-counts.ensures.0 refl in
          record {
            kept = kept_more log p (Cut cut) here (law1_first log p cut inv.first counts) inv.kept;
            first = first_more log p (Cut cut) here (λ d e. let q : cut ≡ d = cc in subst (λ x. first_cut log x.epoch ≡ Some x) q counts) inv.first;
          })
      | in_default w ↦
          record {
            kept = kept_more log p f at (law1_rising log p f c.requires.rising at w.in_default.not-Cut) inv.kept;
            first = first_more log p f at (λ d e. absurd (w.in_default.not-Cut d e)) inv.first;
          }
    ]

pub returns : goal.returns
returns c = none_further c.args.facts.now c.loop-place.place c.loop-place-test.false c.loop-place.invariant.kept
