use Rattle.std.proofs.Common.{◌≡◌, ◌∙◌, sym, subst, take, true, false, rules}
use Rattle.std.specs.Prelude.{MatchOption}
use Rattle.redo_core.specs.Sound.{Law1, Law2, Law5, KeepsLaws}
use Rattle.redo_core.specs.declared.facts.Fact.TheVariants.{Record, Advance}
use Rattle.redo_core.specs.declared.laws.Law.TheVariants.{EpochBegun, AdvanceKept}
use Rattle.log_law.specs.Report.{LinkJudges}
use Rattle.log_law.proofs.Verdict.{record_verdict, record_not_begun, cut_shape, advance_verdict, advance_not_kept}
use Rattle.redo_core.specs.Fault.{BreaksFirst}
use Rattle.log_law.proofs.check.broken_law.Goals as goal

pub returns-then-admits : goal.returns-then-admits
returns-then-admits c roster log place d g at other one j =
    let r = c.in-Record.redo in
    let law1 : Law1 (take place log) (Record r) = subst (Law1 (take place log)) c.in-Record.is (one c.if-is_other.false) in
    let law2 : Law2 log (Record r) = (c.admits.ensures log r d (sym c.epoch.ensures) (sym c.number.ensures.value)).0 c.if-admits.true in
    let links = subst (λ f. LinkJudges log f c.args.link) c.in-Record.is j in
    subst (λ f. MatchOption c.args.link (KeepsLaws roster log place f) (BreaksFirst roster log place f)) (sym c.in-Record.is)
    (record_verdict roster log place r c.args.link c.number.ensures.shape law1 law2 (links law2))

pub returns-else-admits : goal.returns-else-admits
returns-else-admits c roster log place d g at other one j =
    let r = c.in-Record.redo in
    let law1 : Law1 (take place log) (Record r) = subst (Law1 (take place log)) c.in-Record.is (one c.if-is_other.false) in
    subst (λ f. BreaksFirst roster log place f EpochBegun) (sym c.in-Record.is) (record_not_begun roster log place r law1
    (λ law. let t : c.admits.result ≡ true = (c.admits.ensures log r d (sym c.epoch.ensures) (sym c.number.ensures.value)).1 law in let clash : true ≡ false =
    sym t ∙ c.if-admits.false in cc))

pub returns-in-Cut : goal.returns-in-Cut
returns-in-Cut c roster log place d g at other one j = search (rules, cut_shape)

pub returns-then-spares : goal.returns-then-spares
returns-then-spares c roster log place d g at other one j =
    let a = c.in-Advance.advance in
    let law1 : Law1 (take place log) (Advance a) = subst (Law1 (take place log)) c.in-Advance.is (one c.if-is_other.false) in
    let law5 : Law5 roster log (Advance a) = (c.spares.ensures.law roster log d g).0 c.if-spares.true in
    subst (KeepsLaws roster log place) (sym c.in-Advance.is) (advance_verdict roster log place a c.spares.ensures.shape law1 law5)

pub returns-else-spares : goal.returns-else-spares
returns-else-spares c roster log place d g at other one j =
    let a = c.in-Advance.advance in
    let law1 : Law1 (take place log) (Advance a) = subst (Law1 (take place log)) c.in-Advance.is (one c.if-is_other.false) in
    subst (λ f. BreaksFirst roster log place f AdvanceKept) (sym c.in-Advance.is) (advance_not_kept roster log place a law1
    (λ law. let t : c.spares.result ≡ true = (c.spares.ensures.law roster log d g).1 law in let clash : true ≡ false = sym t ∙ c.if-spares.false in cc))
