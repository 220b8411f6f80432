use Rattle.std.proofs.Common.{◌≡◌, arith, sym, ap, ◌∙◌, true, false, ◌+◌, ◌-◌, ◌/◌, rules}
use Rattle.std.proofs.lemmas.Grind.{common_steps}
use Rattle.std.specs.declared.cmp.Ordering.{Ordering}
use Rattle.std.specs.Ordering.{is_ge, is_lt}
use Rattle.sorted_runs.proofs.Halved.{lower_half, one_run}
use Rattle.sorted_runs.proofs.search.run_among.Goals as goal

pub returns-then-is_ge : goal.returns-then-is_ge
returns-then-is_ge g c = grind (arith, common_steps)

pub loop-end-preserved-then-is_lt : goal.loop-end-preserved-then-is_lt
loop-end-preserved-then-is_lt g c =
    let more = c.loop-end-test.true in
    let half = (c.loop-end.end - c.loop-end.r) / 2 in
    let below = ap is_lt (sym c.cmp-in-loop-end.ensures) ∙ sym c.is_lt.ensures ∙ c.if-is_lt.true in
    lower_half g.met.K.Ord.total c.args.key.now c.args.firsts.now c.requires.rising c.loop-end.r c.loop-end.end (c.loop-end.r + half) c.loop-end.invariant (omega arith) (omega arith)
    c.index-firsts-middle.result c.index-firsts-middle.is below

pub returns : goal.returns
returns g c = one_run g.met.K.Ord.total c.args.key.now c.args.firsts.now c.loop-end.r c.loop-end.end (let done = c.loop-end-test.false in omega arith) c.loop-end.invariant

pub loop-end-preserved : goal.loop-end-preserved
loop-end-preserved g c = grind (arith, common_steps)

pub loop-end-init : goal.loop-end-init
loop-end-init g c = grind (arith, common_steps)
