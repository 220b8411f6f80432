use Rattle.std.proofs.Common.{◌≡◌, ◌+◌, ◌∙◌, sym, subst, refl, length, Some, IfOk}
use Rattle.std.specs.Prelude.{slice_get, MatchOption}
use Rattle.std.proofs.lemmas.Option.{none-some, same_Some, slice_get_past, slice_get_read}
use Rattle.redo_core.specs.Fault.{KeepsLaw}
use Rattle.log_law.specs.Breach.{ReportsOf}
use Rattle.log_law.proofs.breach.breach_at.Goals as goal

pub returns-in_default-clause-some : goal.returns-in_default-clause-some
returns-in_default-clause-some c = λ fact e.
    absurd (none-some fact (sym (slice_get_past c.args.facts.now c.args.place c.in_default.ensures.lookup.3) ∙ e))

pub breach_among-requires-clause-at : goal.breach_among-requires-clause-at
breach_among-requires-clause-at c =
    let log = c.args.facts.now in
    slice_get_read log (length log) c.args.place c.in-Some.fact.now refl c.in-Some.ensures.lookup.3.0 c.in-Some.ensures.lookup.1

pub returns-clause-none : goal.returns-clause-none
returns-clause-none c = λ e.
    let log = c.args.facts.now in let fact = c.in-Some.fact.now in
    absurd (none-some fact (sym e ∙ slice_get_read log (length log) c.args.place fact refl c.in-Some.ensures.lookup.3.0 c.in-Some.ensures.lookup.1))

pub returns-clause-some : goal.returns-clause-some
returns-clause-some c = λ fact e.
    let log = c.args.facts.now in let found = c.in-Some.fact.now in let p = c.args.place in
    let at : slice_get log p ≡ Some found = slice_get_read log (length log) p found refl c.in-Some.ensures.lookup.3.0 c.in-Some.ensures.lookup.1 in
    subst
    (λ f. IfOk c.breach_among.result (λ o. MatchOption o (KeepsLaw c.args.roster log p f c.args.law) (ReportsOf c.args.roster log (p + 1) f c.args.law)))
    (same_Some found fact (sym at ∙ e)) c.breach_among.ensures
