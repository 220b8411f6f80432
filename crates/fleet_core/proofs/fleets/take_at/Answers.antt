use Rattle.std.proofs.Common.{get_or, refl, ap, None}
use Rattle.script_steps.specs.declared.steps.Step.TheVariants.{Take}
use Rattle.fleet_core.proofs.Carrying.{take_step}
use Rattle.fleet_core.proofs.Pairing.{carried, one_place}
use Rattle.fleet_core.proofs.fleets.take_at.Goals as goal

pub returns : goal.returns
returns c = λ readers messages.
    let step = Take c.args.node c.args.fact in
    let own = get_or c.args.segments.now c.args.place c.index-segments-place.result in
    carried readers c.args.segments.now c.args.place c.args.place own None messages step c.take_fact.result c.take_fact.new.segment _ messages
    (one_place c.args.segments.now c.args.place c.args.place own c.take_fact.new.segment c.requires refl
    (ap (get_or c.args.segments.now c.args.place) c.index-segments-place.is))
    (take_step readers own None messages c.args.node c.args.fact c.take_fact.result c.take_fact.new.segment c.take_fact.ensures)
