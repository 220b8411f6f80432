use Rattle.std.proofs.Common.{List, sym, subst}
use Rattle.std.specs.Prelude.{OnOk}
use Rattle.node_lock.specs.Trail.{Entry}
use Rattle.node_cell.specs.Kept.{MeansTrail}
use Rattle.fleet_drill.proofs.Parts.{joined_part, union_keeps, union_brings}
use Rattle.fleet_drill.proofs.joining.Joined.take_in.Goals as goal
use Rattle.fleet_drill.proofs.joining.Joined.take_in.Goals.{in-Ok, in-Err-Memory}

pub invariant_of-self : goal.invariant_of-self
invariant_of-self g c =
    let kept = c.segment.ensures.keeps in
    joined_part g.L.LogName.roster g.L.LogName.log c.self.inside.segment c.segment.result.now c.join.new.segment c.join.result
    g.met.L.LogName.sound c.self.invariant (kept.facts, kept.means) c.join.ensures.means c.join.ensures.unchanged

pub returns-clause-keeps : goal.returns-clause-keeps
returns-clause-keeps g c =
    let roster = g.L.LogName.roster in
    let log = g.L.LogName.log in
    elim c.match-join.branch [
      | in-Ok w ↦
          subst (λ r. OnOk r ((trail : List Entry) → MeansTrail roster log c.args.self.now trail → MeansTrail roster log c.join.new.segment trail)) (sym w.result-is)
          (λ trail kept. union_keeps roster log c.self.inside.segment c.segment.result.now c.join.new.segment trail c.args.other.now.trail
          g.met.L.LogName.sound w.in-Ok.ensures.means (subst (λ s. MeansTrail roster log s trail) (sym c.self.view_is) kept) c.segment.ensures.keeps)
      | in-Err-Memory w ↦ subst (λ r. OnOk r ((trail : List Entry) → MeansTrail roster log c.args.self.now trail → MeansTrail roster log c.join.new.segment trail)) (sym w.result-is) tt
    ]

pub returns-clause-brings : goal.returns-clause-brings
returns-clause-brings g c =
    let roster = g.L.LogName.roster in
    let log = g.L.LogName.log in
    elim c.match-join.branch [
      | in-Ok w ↦
          subst (λ r. OnOk r (MeansTrail roster log c.join.new.segment c.args.other.now.trail)) (sym w.result-is)
          (union_brings roster log c.self.inside.segment c.segment.result.now c.join.new.segment c.args.other.now.trail
          g.met.L.LogName.sound w.in-Ok.ensures.means c.self.invariant c.segment.ensures.keeps)
      | in-Err-Memory w ↦ subst (λ r. OnOk r (MeansTrail roster log c.join.new.segment c.args.other.now.trail)) (sym w.result-is) tt
    ]
