use Rattle.std.proofs.Common.{◌≡◌, ◌∙◌, get_or, None, Some, sym, ap, subst, arith}
use Rattle.std.specs.Prelude.{MatchOption}
use Rattle.redo_core.specs.CompleteEpoch.{HasCutsTo}
use Rattle.redo_core.specs.Sound.{Law2, counted}
use Rattle.redo_core.proofs.FactParts.{cut_in}
use Rattle.log_law.specs.Counted.{first_cut}
use Rattle.log_law.specs.Breach.{ReportsBegun}
use Rattle.log_law.specs.declared.breach.Breach.TheVariants.{NotAbove}
use Rattle.log_law.proofs.FirstCuts.{counted_at, counted_among}
use Rattle.log_law.proofs.Breaches.{law2_above}
use Rattle.log_law.proofs.breach.begun_breach.Goals as goal

pub returns-in_err-cut : goal.returns-in_err-cut
returns-in_err-cut c =
    let log = c.args.facts.now in let r = c.in-Record.redo in
    let none : first_cut c.args.facts.now c.in-Record.redo.epoch ≡ None = sym (c.requires.table.at r.epoch)
    ∙ ap (λ k. get_or c.args.cuts.now.by_epoch.items k None) (sym c.epoch-2.ensures) ∙ sym c.at.ensures ∙ c.in_err-cut.was in
    let has : HasCutsTo (counted c.args.facts.now) c.in-Record.redo.epoch = subst (HasCutsTo (counted log)) c.epoch.ensures
    (c.in_default-first_missing.ensures log c.requires) in
    let law : Law2 c.args.facts.now c.args.fact.now = subst (Law2 log) (sym c.in-Record.is) (law2_above log r None none has tt) in
    subst (λ o. MatchOption o (Law2 log c.args.fact.now) (ReportsBegun log c.args.fact.now)) (sym c.from_residual.ensures) law

pub returns-then-hi-number : goal.returns-then-hi-number
returns-then-hi-number c =
    let log = c.args.facts.now in let r = c.in-Record.redo in
    let first : first_cut c.args.facts.now c.in-Record.redo.epoch ≡ Some c.in_ok-cut.cut = sym (c.requires.table.at r.epoch)
    ∙ ap (λ k. get_or c.args.cuts.now.by_epoch.items k None) (sym c.epoch-2.ensures) ∙ sym c.at.ensures ∙ c.in_ok-cut.was in
    let has : HasCutsTo (counted c.args.facts.now) c.in-Record.redo.epoch = subst (HasCutsTo (counted log)) c.epoch.ensures
    (c.in_default-first_missing.ensures log c.requires) in
    subst (Law2 log) (sym c.in-Record.is) (law2_above log r (Some c.in_ok-cut.cut) first has (omega arith))

pub returns-in_err-place : goal.returns-in_err-place
returns-in_err-place c =
    let log = c.args.facts.now in let r = c.in-Record.redo in
    let first : first_cut c.args.facts.now c.in-Record.redo.epoch ≡ Some c.in_ok-cut.cut = sym (c.requires.table.at r.epoch)
    ∙ ap (λ k. get_or c.args.cuts.now.by_epoch.items k None) (sym c.epoch-2.ensures) ∙ sym c.at.ensures ∙ c.in_ok-cut.was in
    let own = counted_at log r.epoch c.in_ok-cut.cut first in
    absurd (c.in_err-place.ensures ((cut_in log c.in_ok-cut.cut).0 (counted_among log c.in_ok-cut.cut own.0)))

pub returns : goal.returns
returns c =
    let log = c.args.facts.now in let r = c.in-Record.redo in let cut = c.in_ok-cut.cut in
    let first : first_cut c.args.facts.now c.in-Record.redo.epoch ≡ Some c.in_ok-cut.cut = sym (c.requires.table.at r.epoch)
    ∙ ap (λ k. get_or c.args.cuts.now.by_epoch.items k None) (sym c.epoch-2.ensures) ∙ sym c.at.ensures ∙ c.in_ok-cut.was in
    let own = counted_at log r.epoch cut first in
    subst (λ f. ReportsBegun log f (NotAbove c.in_ok-place.place)) (sym c.in-Record.is) (cut, c.in_ok-place.ensures, own.0, own.1, omega arith)
