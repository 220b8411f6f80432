use Rattle.std.proofs.Common.{take, ap, ◌∙◌, arith, rules}
use Rattle.std.proofs.lemmas.Bool.Decides.{nat_tests}
use Rattle.std.specs.Global.{Vec}
use Rattle.sorted_runs.specs.Edits.{offset}
use Rattle.sorted_runs.proofs.Lists.{as_many}
use Rattle.sorted_runs.proofs.Gone.{place_within, cut_loses, cut_all_loses, cut_behind, cut_first, cut_all, cut_counted, set_before, gone_before}
use Rattle.sorted_runs.proofs.ranges.cut_run.Goals.{then-is_empty, else-is_empty+then-from-eq0, else-is_empty+else-from-eq0}
use Rattle.sorted_runs.proofs.ranges.cut_run.Goals as goal

pub remove-requires-then-is_empty : goal.remove-requires-then-is_empty
remove-requires-then-is_empty g c = omega (arith, as_many)

pub index_mut-requires : goal.index_mut-requires
index_mut-requires g c = omega (arith, as_many)

pub overflow_sub-result-2 : goal.overflow_sub-result-2
overflow_sub-result-2 g c =
    let d = c.index_mut-run.result.now in
    let h = place_within c.args.runs.now.items c.args.r c.args.to d c.requires.within (c.requires.place d) in
    let n = c.requires.counted in
    omega arith

pub returns-clause-shaped : goal.returns-clause-shaped
returns-clause-shaped g c =
    let d = c.index_mut-run.result.now in
    elim c.if-is_empty.branch [
      | then-is_empty w ↦ rw (w.firsts-is, w.runs-is, w.remove-then-is_empty.ensures.items, w.remove.ensures.items) (cut_all c.args.firsts.now.items c.args.runs.now.items c.args.r c.args.from c.args.to d c.cut.new.row c.requires.shaped c.requires.within c.index_mut-run.ensures.value c.requires.rising (c.requires.place d) c.cut.ensures)
      | else-is_empty+then-from-eq0 w ↦ rw (w.firsts-is, w.runs-is)
          (cut_first c.args.firsts.now.items c.args.runs.now.items c.args.r c.args.from c.args.to d c.cut.new.row c.requires.shaped c.requires.within c.index_mut-run.ensures.value c.requires.rising (c.requires.place d) c.cut.ensures w.index.result.now
          (let e = c.cut.new.row.ok in let t = w.if-is_empty.ensures in grind (arith, nat_tests)) w.index.ensures)
      | else-is_empty+else-from-eq0 w ↦ rw (w.firsts-is, w.runs-is) (cut_behind c.args.firsts.now.items c.args.runs.now.items c.args.r c.args.from c.args.to d c.cut.new.row c.requires.shaped c.requires.within c.index_mut-run.ensures.value c.requires.rising (c.requires.place d) c.cut.ensures w.if-from-eq0.false)
    ]

pub returns-clause-loses : goal.returns-clause-loses
returns-clause-loses g c = search (rules, cut_loses, cut_all_loses)

pub returns-clause-counted : goal.returns-clause-counted
returns-clause-counted g c =
    let d = c.index_mut-run.result.now in
    let n = cut_counted c.args.runs.now.items c.if-is_empty.runs.items (offset c.args.runs.now.items c.args.r c.args.from) (offset c.args.runs.now.items c.args.r c.args.to) c.args.len (returns-clause-loses g c) (let h = c.requires.rising in omega arith) (place_within c.args.runs.now.items c.args.r c.args.to d c.requires.within (c.requires.place d)) c.requires.counted in
    omega arith

pub returns-clause-before : goal.returns-clause-before
returns-clause-before g c =
    let vs = c.args.runs.now.items in
    let r = c.args.r in
    let w' = c.cut.new.row in
    elim c.if-is_empty.branch [
      | then-is_empty w ↦ ap (λ (v : Vec _). take r v.items) w.runs-is ∙ ap (λ l. take r l) w.remove.ensures.items ∙ gone_before vs r w'
      | else-is_empty+then-from-eq0 w ↦ ap (λ (v : Vec _). take r v.items) w.runs-is ∙ set_before vs r w'
      | else-is_empty+else-from-eq0 w ↦ ap (λ (v : Vec _). take r v.items) w.runs-is ∙ set_before vs r w'
    ]
