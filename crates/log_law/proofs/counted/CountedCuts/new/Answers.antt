use Rattle.std.proofs.Common.{◌≤◌, ◌∙◌, ap, length, refl, subst, sym, arith}
use Rattle.redo_core.specs.Roster.{IsRoster}
use Rattle.log_law.specs.Counted.{IsTable}
use Rattle.log_law.specs.Lows.{AreLeastPoints}
use Rattle.log_law.proofs.counted.CountedCuts.new.Goals as goal

pub first_cuts-requires : goal.first_cuts-requires
first_cuts-requires c d inside =
    let l : d.epoch ≤ c.last_epoch.result = c.last_epoch.ensures.1 d.epoch (d, inside, refl) in omega (arith, l, c.from-len.ensures)

pub returns-clause-cuts : goal.returns-clause-cuts
returns-clause-cuts c =
    let t : IsTable c.args.facts.now c.in_ok-by_epoch.by_epoch.items = c.in_ok-by_epoch.ensures.table in
    record {
      table = t;
      complete = c.complete_epoch-complete.ensures c.args.facts.now (subst (IsTable c.args.facts.now) (sym c.deref.ensures.value) t);
    }

pub returns-clause-least_later_lo : goal.returns-clause-least_later_lo
returns-clause-least_later_lo c =
    let t : IsTable c.args.facts.now c.in_ok-by_epoch.by_epoch.items = c.in_ok-by_epoch.ensures.table in
    let lows : AreLeastPoints c.args.roster c.args.facts.now (length c.deref-2.result.now) c.in_ok-lows.lows.items =
    subst (λ n. AreLeastPoints c.args.roster c.args.facts.now n c.in_ok-lows.lows.items)
    (sym (ap length c.deref-2.ensures.value ∙ c.in_ok-by_epoch.ensures.len)) c.in_ok-lows.ensures in
    record {
      some_readers = subst IsRoster c.readers.ensures.value (subst IsRoster (sym c.readers.ensures.value) c.readers.ensures.range);
      readers = c.readers.ensures.value;
      least_later_lo = c.in_ok-least_later_lo.ensures c.args.roster c.args.facts.now (subst (IsTable c.args.facts.now) (sym c.deref-2.ensures.value) t)
          (subst (AreLeastPoints c.args.roster c.args.facts.now (length c.deref-2.result.now)) (sym c.deref-3.ensures.value) lows);
    }
