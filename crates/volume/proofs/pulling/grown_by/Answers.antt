use Rattle.std.proofs.Common.{Option, IfOk, IfNone, sym, subst}
use Rattle.messages.specs.Summaries.{SummaryData}
use Rattle.volume.specs.Opening.{asked_of, RefusesDelta}
use Rattle.volume.proofs.pulling.grown_by.Goals as goal

pub returns-in-Some-clause-refuses : goal.returns-in-Some-clause-refuses
returns-in-Some-clause-refuses c =
    let o = c.args.opening.now in
    subst (λ (a : Option SummaryData). IfOk c.grown.result (λ x. IfNone x (RefusesDelta o.union (asked_of a o.summary) c.args.delta.now)))
    (sym c.in-Some.is) c.grown.ensures.refuses

pub returns-in-None-clause-refuses : goal.returns-in-None-clause-refuses
returns-in-None-clause-refuses c =
    let o = c.args.opening.now in
    subst (λ (a : Option SummaryData). IfOk c.grown-in-None.result (λ x. IfNone x (RefusesDelta o.union (asked_of a o.summary) c.args.delta.now)))
    (sym c.in-None.is) c.grown-in-None.ensures.refuses
