use Rattle.std.proofs.Common.{◌≡◌, ◌≢◌, ◌+◌, ◌-◌, ◌<◌, ◌≤◌, get_or, set, length, arith, ap, sym, ◌∙◌, subst, ⊎_elim, length-set, get_or-set_same, get_or-set_other}
use Rattle.std.proofs.lemmas.Bool.{cases_eq}
use Rattle.std.proofs.lemmas.List.{get_or_default}
use Rattle.redo_core.specs.Shape.{max_number}
use Rattle.log_law.specs.Counted.{first_cut}
use Rattle.log_law.specs.Targets.{IsBoundTo}
use Rattle.log_law.proofs.Candidates.{bound_last, bound_step}
use Rattle.log_law.proofs.targets.alive_bounds.Goals as goal

pub loop-epoch-preserved : goal.loop-epoch-preserved
loop-epoch-preserved c = record {
  len = length-set c.loop-epoch.bounds.items (c.from-place.result - 1) c.lowered.result ∙ c.loop-epoch.invariant.len;
  within = omega (arith, c.loop-epoch.invariant.within);
  each = λ log d e l m.
      let fs = c.loop-epoch.bounds.items in let i = c.from-place.result - 1 in let v = c.lowered.result in let view = c.args.view in
      let place : c.from-place.result ≡ c.loop-epoch.epoch = c.from-place.ensures in
      let within : c.loop-epoch.epoch ≤ c.args.view = c.loop-epoch.invariant.within in
      let len : length c.loop-epoch.bounds.items ≡ c.args.view + 1 = c.loop-epoch.invariant.len in
      let next : c.loop-epoch.epoch ≡ c.from-place.result - 1 + 1 = omega arith in
      let wide : c.from-place.result - 1 < length c.loop-epoch.bounds.items = omega arith in
      let inside : c.from-place.result < length c.loop-epoch.bounds.items = omega arith in
      let later = c.index-later.result.now in
      let same : get_or c.loop-epoch.bounds.items c.from-place.result 0 ≡ c.index-later.result.now =
      sym (c.index-later.ensures ∙ get_or_default fs c.from-place.result later 0 inside) in
      let old : IsBoundTo log c.args.view (c.from-place.result - 1 + 1) c.index-later.result.now = subst (λ k. IsBoundTo log view k later) next
      (subst (IsBoundTo log view c.loop-epoch.epoch) same
      (subst (λ k. IsBoundTo log view c.loop-epoch.epoch (get_or fs k 0)) (sym place) (c.loop-epoch.invariant.each log d c.loop-epoch.epoch (omega arith) within))) in
      ⊎_elim
      (λ (s : e ≡ i). subst (λ k. IsBoundTo log view k (get_or (set fs i v) k 0)) (sym s)
      (subst (IsBoundTo log view i) (sym (get_or-set_same fs i v 0 wide))
      (bound_step log view i later v c.at.result
      (subst (λ k. first_cut log k ≡ c.at.result) next (sym (d.table.at c.loop-epoch.epoch) ∙ sym c.at.ensures)) (omega arith) old c.lowered.ensures)))
      (λ (s : e ≢ i). subst (IsBoundTo log view e) (sym (get_or-set_other fs i e v 0 s)) (c.loop-epoch.invariant.each log d e (omega arith) m))
      (cases_eq e i);
}

pub returns : goal.returns
returns c log d = record { len = c.loop-epoch.invariant.len; each = λ e m. c.loop-epoch.invariant.each log d e (omega arith) m }

pub loop-epoch-init : goal.loop-epoch-init
loop-epoch-init c =
    let bounds = c.in_ok-bounds.bounds.items in
    let len : length c.in_ok-bounds.bounds.items ≡ c.args.view + 1 = c.in_ok-bounds.ensures.0 ∙ ap (λ n. n + 1) c.from.ensures in
    record {
      len = len;
      within = omega arith;
      each = λ log d e l m. subst (IsBoundTo log c.args.view e)
          (sym (get_or_default bounds e 0 max_number (omega arith) ∙ c.in_ok-bounds.ensures.1 e)) (bound_last log c.args.view e l);
    }
