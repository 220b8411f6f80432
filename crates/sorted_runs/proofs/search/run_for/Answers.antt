use Rattle.std.proofs.Common.{sym, ap, ◌∙◌, ◌+◌, arith}
use Rattle.std.specs.Ordering.{is_ge, is_lt}
use Rattle.std.proofs.lemmas.List.{get_or_default}
use Rattle.sorted_runs.proofs.Near.{run_between}
use Rattle.sorted_runs.proofs.search.run_for.Goals as goal

pub returns-then-is_lt : goal.returns-then-is_lt
returns-then-is_lt g c =
    run_between g.met.K.Ord.total c.args.key.now c.args.firsts.now c.requires.rising c.args.near c.index-firsts-near.result c.index-firsts-near-then-is_ge.result
    (omega arith)
    (λ d. get_or_default c.args.firsts.now c.args.near d c.index-firsts-near.result (omega arith) ∙ sym c.index-firsts-near.is)
    (λ d. get_or_default c.args.firsts.now (c.args.near + 1) d c.index-firsts-near-then-is_ge.result (omega arith) ∙ sym c.index-firsts-near-then-is_ge.is)
    (ap is_ge (sym c.cmp.ensures) ∙ sym c.is_ge.ensures ∙ c.if-is_ge.true)
    (ap is_lt (sym c.cmp-then-is_ge.ensures) ∙ sym c.is_lt.ensures ∙ c.if-is_lt.true)
