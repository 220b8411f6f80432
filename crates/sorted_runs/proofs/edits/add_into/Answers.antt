use Rattle.std.proofs.lemmas.Grind.{common_steps}
use Rattle.std.proofs.Common.{arith}
use Rattle.sorted_runs.proofs.Lists.{as_many}
use Rattle.sorted_runs.proofs.Shaped.{added_behind, added_first, added_gains, same_items, inserted_there, kept_there, always_err}
use Rattle.sorted_runs.proofs.edits.add_into.Goals.{then-at-eq0, else-at-eq0}
use Rattle.sorted_runs.proofs.edits.add_into.Goals as goal

pub returns-in_err-put_in-clause-shape_stays : goal.returns-in_err-put_in-clause-shape_stays
returns-in_err-put_in-clause-shape_stays g c = grind (arith, common_steps, same_items)

pub returns-in_err-put_in-clause-unchanged : goal.returns-in_err-put_in-clause-unchanged
returns-in_err-put_in-clause-unchanged g c =
    let d = c.index_mut-run.result.now in
    always_err _ (same_items c.args.firsts.now.items c.args.runs.now.items c.args.r d c.put_in.new.list c.requires.shaped c.requires.within (let h = c.requires.room d in omega arith)
    (kept_there c.args.runs.now.items c.args.r d c.index_mut-run.ensures.value c.put_in.new.list c.in_err-put_in.ensures.items)).1

pub index_mut-requires : goal.index_mut-requires
index_mut-requires g c = omega (arith, as_many)

pub returns-clause-shaped : goal.returns-clause-shaped
returns-clause-shaped g c =
    let d = c.index_mut-run.result.now in
    let is = inserted_there c.args.runs.now.items c.args.r d c.index_mut-run.ensures.value c.args.at (c.args.key, c.args.value) c.put_in.new.list c.in_ok-put_in.ensures.items in
    elim c.if-at-eq0.branch [
      | then-at-eq0 w ↦ rw w.firsts-is (added_first c.args.firsts.now.items c.args.runs.now.items c.args.r (c.args.key, c.args.value) d c.put_in.new.list c.requires.shaped c.requires.within (c.requires.room d) (rw w.if-at-eq0.true at is))
      | else-at-eq0 w ↦ rw w.firsts-is (added_behind c.args.firsts.now.items c.args.runs.now.items c.args.r c.args.at (c.args.key, c.args.value) d c.put_in.new.list c.requires.shaped c.requires.within (c.requires.place d) (c.requires.room d) is (λ e. let n = w.if-at-eq0.false in absurd (omega arith)))
    ]

pub returns-clause-gains : goal.returns-clause-gains
returns-clause-gains g c = grind (arith, common_steps, added_gains)
