use Rattle.std.proofs.lemmas.Grind.{common_steps}
use Rattle.std.proofs.Common.{arith}
use Rattle.sorted_runs.specs.Edits.{offset}
use Rattle.sorted_runs.proofs.Removed.{entry_there}
use Rattle.sorted_runs.proofs.Gone.{over_rises, same_run, none_lost, lost_up_to}
use Rattle.sorted_runs.proofs.ranges.cut_out.Goals.{then-from-to-2-via-then-from-to-2, then-from-to-2-via-else-from-to-2+then-from-to-3}
use Rattle.sorted_runs.proofs.ranges.cut_out.Goals as goal

pub returns-then-from-to-clause-loses : goal.returns-then-from-to-clause-loses
returns-then-from-to-clause-loses g c =
    let vs = c.args.runs.now.items in
    let from = c.args.from in
    let to = c.args.to in
    lost_up_to vs (offset vs from.run from.at) (offset vs to.run to.at) c.cut_over.new.runs.items (over_rises vs from.run from.at to.run to.at (entry_there vs from.run c.requires.from_within) c.if-from-to.true c.requires.to_within (c.requires.from_place (entry_there vs from.run c.requires.from_within))) c.cut_over.ensures.loses

pub returns-then-from-to-2-clause-loses : goal.returns-then-from-to-2-clause-loses
returns-then-from-to-2-clause-loses g c =
    let vs = c.args.runs.now.items in
    let from = c.args.from in
    let to = c.args.to in
    none_lost vs (offset vs from.run from.at) (offset vs to.run to.at)
    elim c.then-from-to-2.branch [
      | then-from-to-2-via-then-from-to-2 w ↦ over_rises vs to.run to.at from.run from.at (entry_there vs to.run c.requires.to_within) w.if-from-to-2.true c.requires.from_within (c.requires.to_place (entry_there vs to.run c.requires.to_within))
      | then-from-to-2-via-else-from-to-2+then-from-to-3 w ↦
          let h = w.if-from-to-2.false in
          let k = c.if-from-to.false in
          let lt = w.if-from-to-3.true in
          let same = same_run vs from.run to.run 0 (omega arith) in
          omega arith
    ]

pub cut_run-requires-clause-place : goal.cut_run-requires-clause-place
cut_run-requires-clause-place g c = grind (arith, common_steps)

pub returns-clause-loses : goal.returns-clause-loses
returns-clause-loses g c = grind (arith, common_steps)
