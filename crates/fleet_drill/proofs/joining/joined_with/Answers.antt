use Rattle.std.proofs.Common.{inl, arith, sym, subst}
use Rattle.std.proofs.lemmas.Option.{slice_get_within}
use Rattle.node_cell.specs.Kept.{MeansTrail}
use Rattle.fleet_drill.proofs.Parts.{more_kept, own_kept}
use Rattle.fleet_drill.proofs.joining.joined_with.Goals as goal
use Rattle.fleet_drill.proofs.joining.joined_with.Goals.{then-place-own+in_ok-take_in, else-place-own}

pub loop-place-preserved : goal.loop-place-preserved
loop-place-preserved g c =
    let roster = g.L.LogName.roster in
    let log = g.L.LogName.log in
    λ n c' within e. elim c.if-place-own.branch [
      | then-place-own+in_ok-take_in w ↦
          subst (λ j. MeansTrail roster log j c'.trail) (sym w.joined-is)
          (more_kept roster log c.args.closed.now c.loop-place.joined w.take_in.new.self c.loop-place.place c.args.own w.index-closed-place.result
          c.loop-place.invariant w.index-closed-place.is w.in_ok-take_in.ensures.keeps w.in_ok-take_in.ensures.brings n c' within e)
      | else-place-own w ↦
          subst (λ j. MeansTrail roster log j c'.trail) (sym w.joined-is)
          (own_kept roster log c.args.closed.now c.loop-place.joined c.loop-place.place c.args.own c.loop-place.invariant (omega (arith, w.if-place-own.false)) n c' within e)
    ]

pub returns : goal.returns
returns g c =
    λ n c' e.
    let within = slice_get_within c.args.closed.now n c' e in
    c.loop-place.invariant n c' (inl (omega (arith, within, c.loop-place-test.false))) e
