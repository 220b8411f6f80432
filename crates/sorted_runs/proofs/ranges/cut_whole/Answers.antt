use Rattle.std.proofs.Common.{take, drop, ap, ◌∙◌, arith, rules}
use Rattle.sorted_runs.proofs.Lists.{as_many}
use Rattle.sorted_runs.proofs.Gone.{three_parts, none_counted, whole_counted, whole_loses, shaped_range, take_in}
use Rattle.sorted_runs.proofs.ranges.cut_whole.Goals as goal

pub loop-run-init : goal.loop-run-init
loop-run-init g c = search (rules, three_parts)

pub cut-requires-clause-within : goal.cut-requires-clause-within
cut-requires-clause-within g c = omega (arith, as_many)

pub returns-clause-shaped : goal.returns-clause-shaped
returns-clause-shaped g c =
    rw (c.cut.ensures, c.cut-2.ensures) (shaped_range c.args.firsts.now.items c.args.runs.now.items c.args.from c.args.to c.requires.rising c.requires.shaped)

pub returns-clause-counted : goal.returns-clause-counted
returns-clause-counted g c = search (rules, none_counted, whole_counted)

pub returns-clause-loses : goal.returns-clause-loses
returns-clause-loses g c = rw c.cut-2.ensures (whole_loses c.args.runs.now.items c.args.from c.args.to)

pub returns-clause-before : goal.returns-clause-before
returns-clause-before g c =
    let vs = c.args.runs.now.items in
    let from = c.args.from in
    let rising = c.requires.rising in
    let within = c.requires.within in
    ap (λ l. take from l) c.cut-2.ensures ∙ take_in vs (drop c.args.to vs) from from (omega arith) (omega arith)
