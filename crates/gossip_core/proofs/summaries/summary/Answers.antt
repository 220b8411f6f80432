use Rattle.std.proofs.Common.{rules}
use Rattle.std.proofs.lemmas.Result.{IfOk-weaker}
use Rattle.gossip_core.proofs.Summed.{of_meaning}
use Rattle.gossip_core.proofs.summaries.summary.Goals as goal

pub returns-clause-meaning : goal.returns-clause-meaning
returns-clause-meaning c = search (rules, IfOk-weaker, of_meaning)

pub returns-clause-part : goal.returns-clause-part
returns-clause-part c =
    IfOk-weaker c.own_summary.result _ _ (λ x is roster log facts m sound means meaning.
    of_meaning c.args.segment.now m x c.own_summary.ensures.form is ((c.same_meaning.ensures roster log facts c.args.segment.now m sound means).1 meaning))
    c.own_summary.ensures.own
