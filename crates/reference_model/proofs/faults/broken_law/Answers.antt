use Rattle.std.proofs.Common.{◌≡◌, sym, subst, take, true, false, rules}
use Rattle.redo_core.specs.Fault.{BreaksFirst}
use Rattle.redo_core.specs.Sound.{Law1}
use Rattle.redo_core.specs.declared.facts.Fact.TheVariants.{Advance}
use Rattle.redo_core.specs.declared.laws.Law.TheVariants.{AdvanceKept}
use Rattle.reference_model.proofs.faults.broken_law.Goals as goal

pub returns-in-Advance-2 : goal.returns-in-Advance-2
returns-in-Advance-2 c =
    let log = c.args.log.now in let a = c.in-Advance.advance in
    subst (λ f. BreaksFirst c.args.readers log c.args.place f AdvanceKept) (sym c.in-Advance.is) (
      λ law. let clash : false ≡ true = c.if-is_kept.ensures.law.1 law in cc,
      (let first : Law1 (take c.args.place log) (Advance a) = search rules in first, (tt, (tt, (tt, tt)))),
    )
