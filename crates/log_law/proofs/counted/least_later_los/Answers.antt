use Rattle.std.proofs.Common.{◌≡◌, ◌+◌, ◌-◌, ◌<◌, ◌≤◌, ◌≢◌, ◌⊎◌, get_or, set, length, arith, sym, ◌∙◌, subst, ⊎_elim, length-set, get_or-set_same, get_or-set_other}
use Rattle.std.specs.Prelude.{MatchOption}
use Rattle.std.proofs.lemmas.Bool.{cases_eq}
use Rattle.std.proofs.lemmas.List.{get_or_default}
use Rattle.log_law.specs.Counted.{IsLeastLaterLo}
use Rattle.log_law.proofs.FirstCuts.{later_lo_last, later_lo_step, read_item}
use Rattle.log_law.proofs.counted.least_later_los.Goals as goal

pub loop-epoch-init : goal.loop-epoch-init
loop-epoch-init c = record {
  len = c.in_ok-least_later_lo.ensures.0;
  inside = omega (arith, c.requires.table);
  least_later_lo = λ roster log t a e l. later_lo_last roster log c.args.table.now e _ t (omega (arith, l)) (c.in_ok-least_later_lo.ensures.1 e);
}

pub loop-epoch-preserved : goal.loop-epoch-preserved
loop-epoch-preserved c = record {
  len = length-set c.loop-epoch.least_later_lo.items (c.loop-epoch.epoch - 1) c.lower.result ∙ c.loop-epoch.invariant.len;
  inside = omega (arith, c.loop-epoch.invariant.inside);
  least_later_lo = λ roster log t a e l.
      let fs = c.loop-epoch.least_later_lo.items in let i = c.loop-epoch.epoch - 1 in let v = c.lower.result in
      let n : length c.loop-epoch.least_later_lo.items ≡ length c.args.table.now = c.loop-epoch.invariant.len in
      let small : c.loop-epoch.epoch < length c.args.table.now = c.loop-epoch.invariant.inside in
      let wide : c.loop-epoch.epoch - 1 < length c.loop-epoch.least_later_lo.items = omega arith in
      let back : c.loop-epoch.epoch - 1 + 1 ≡ c.loop-epoch.epoch = omega arith in
      let next : i + 1 < length c.loop-epoch.least_later_lo.items = omega arith in
      let same : c.index.result.now ≡ get_or c.loop-epoch.least_later_lo.items (c.loop-epoch.epoch - 1 + 1) 281474976710655 =
      c.index.ensures ∙ get_or_default fs (i + 1) c.index.result.now 281474976710655 next in
      ⊎_elim
      (λ (s : e ≡ i). subst (λ k. IsLeastLaterLo roster log k (get_or (set fs i v) k 281474976710655)) (sym s)
      (subst (IsLeastLaterLo roster log i) (sym (get_or-set_same fs i v 281474976710655 wide))
      (later_lo_step roster log (length c.args.table.now) c.args.lows.now i (get_or fs (i + 1) 281474976710655) v c.index-table-epoch.result (omega arith) a
      (sym (t.at (i + 1)) ∙ read_item c.args.table.now (i + 1) c.index-table-epoch.result (omega arith) c.index-table-epoch.is)
      (c.loop-epoch.invariant.least_later_lo roster log t a (i + 1) (omega arith))
      (subst (λ x. MatchOption c.index-table-epoch.result (c.lower.result ≡ x)
      (λ d. (d.lo < get_or c.args.lows.now (c.loop-epoch.epoch - 1 + 1) 0 → c.lower.result ≤ d.lo) × (c.lower.result ≤ x)
      × ((c.lower.result ≡ x) ⊎ ((d.lo < get_or c.args.lows.now (c.loop-epoch.epoch - 1 + 1) 0) × (c.lower.result ≡ d.lo))))) same c.lower.ensures))))
      (λ (s : e ≢ i). subst (IsLeastLaterLo roster log e) (sym (get_or-set_other fs i e v 281474976710655 s))
      (c.loop-epoch.invariant.least_later_lo roster log t a e (omega arith)))
      (cases_eq e i);
}

pub returns : goal.returns
returns c roster log t a = λ e. c.loop-epoch.invariant.least_later_lo roster log t a e (omega arith)
