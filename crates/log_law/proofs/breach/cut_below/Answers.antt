use Rattle.std.proofs.Common.{◌≡◌, ◌∙◌, ◌<◌, Some, sym, ap, subst, refl, get_or, length, true, false, rules}
use Rattle.std.specs.Prelude.{slice_get}
use Rattle.std.specs.List.{Contains}
use Rattle.std.proofs.lemmas.Option.{slice_get_read}
use Rattle.redo_core.specs.Sound.{counted}
use Rattle.redo_core.specs.declared.facts.Fact.TheVariants.{Cut}
use Rattle.log_law.specs.Counted.{first_cut}
use Rattle.log_law.proofs.FirstCuts.{counted_is}
use Rattle.log_law.proofs.Candidates.{each_more}
use Rattle.log_law.proofs.Repeats.{cut_eq}
use Rattle.log_law.proofs.Breaches.{IsBelowBy, cut_below_at, no_cut_below}
use Rattle.log_law.proofs.breach.cut_below.Goals as goal
use Rattle.log_law.proofs.breach.cut_below.Goals.{in-Cut+else-is_below, else-is_below-via-then-is_below+else-counts, else-is_below-via-else-is_below, in_default}

pub returns-then-counts : goal.returns-then-counts
returns-then-counts c roster least =
    let log = c.args.facts.now in let p = c.loop-place.place in let f = c.index-facts-place.result in let cut = c.in-Cut.cut in
    let at : slice_get c.args.facts.now c.loop-place.place ≡ Some (Cut c.in-Cut.cut) = slice_get_read log
    (length c.args.facts.now) p f refl c.loop-place-test.true c.index-facts-place.is ∙ ap Some c.in-Cut.is in
    let counts : Contains (counted c.args.facts.now) c.in-Cut.cut = (counted_is log cut).1 (sym (c.requires.table.at cut.epoch) ∙ c.if-counts.ensures.0 refl) in
    let below = c.if-is_below.ensures.0 refl in
    cut_below_at roster log c.args.cuts.now.by_epoch.items c.args.lows.now c.args.advance p _ cut c.requires.table least at refl counts below.0 below.1 below.2

pub loop-place-preserved : goal.loop-place-preserved
loop-place-preserved c =
    let log = c.args.facts.now in let lows = c.args.lows.now in let a = c.args.advance in let p = c.loop-place.place in let f = c.index-facts-place.result in
    each_more log (λ g. IsBelowBy log lows a g → ⊥) p f (slice_get_read log (length log) p f refl c.loop-place-test.true c.index-facts-place.is)
    (λ below. elim c.match-fact.branch [
      | in-Cut+else-is_below w ↦
          (let cut = w.in-Cut.cut in
          let same : below.0 ≡ cut = cut_eq below.0 cut (sym below.1 ∙ w.in-Cut.is) in
          elim w.else-is_below.branch [
            | else-is_below-via-then-is_below+else-counts v ↦
                (let first = subst (λ x. first_cut log x.epoch ≡ Some x) same ((counted_is log below.0).0 below.2) in
                let clash : false ≡ true = v.if-counts.ensures.1 (c.requires.table.at cut.epoch ∙ first) in cc)
            | else-is_below-via-else-is_below v ↦
                (let clash : false ≡ true = v.if-is_below.ensures.1
                (subst (λ x. (a.epoch < x.epoch) × (x.lo < a.point) × (x.lo < get_or lows x.epoch 0)) same (below.3, below.4, below.5)) in cc)
          ])
      | in_default w ↦ w.in_default.not-Cut below.0 below.1
    ]) c.loop-place.invariant

pub returns : goal.returns
returns c roster least = search (rules, no_cut_below)
