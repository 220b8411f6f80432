use Rattle.std.proofs.Common.{◌≡◌, ◌<◌, length, get_or, ap, arith, Some}
use Rattle.std.proofs.lemmas.Grind.{common_steps}
use Rattle.fleet_core.proofs.Pairing.{carried, place_in_front, place_in_back, one_place}
use Rattle.fleet_core.proofs.fleets.carry_out_at.Goals as goal

pub returns-then-place-other : goal.returns-then-place-other
returns-then-place-other c =
    let split = c.split_at_mut-front.ensures in
    let front = c.split_at_mut-front.result.0.now in
    let back = c.split_at_mut-front.result.1.now in
    let some : 0 < length back = omega (arith, split.back_len, c.requires.other) in
    let own = get_or front c.args.place c.index-front-place.result in
    let its = get_or back 0 c.index-back-0.result in
    let own_at : own ≡ get_or front c.args.place own = ap (get_or front c.args.place) c.index-front-place.is in
    let its_at : its ≡ get_or back 0 its = ap (get_or back 0) c.index-back-0.is in
    let later = c.carry_out.new.segment in
    let before : c.args.place < c.args.other = c.if-place-other.true in
    let stands = place_in_front c.args.segments.now front back c.args.place c.args.other own its later split.value split.front_len before some own_at its_at in
    carried c.args.roster c.args.segments.now c.args.place c.args.other own (Some its) c.args.messages.now.items c.args.step.now c.carry_out.result later _
    c.carry_out.new.messages.items stands c.carry_out.ensures

pub returns-then-other-place : goal.returns-then-other-place
returns-then-other-place c =
    let split = c.split_at_mut-front-then-other-place.ensures in
    let front = c.split_at_mut-front-then-other-place.result.0.now in
    let back = c.split_at_mut-front-then-other-place.result.1.now in
    let some : 0 < length back = omega (arith, split.back_len, c.requires.place) in
    let own = get_or back 0 c.index-back-0-then-other-place.result in
    let its = get_or front c.args.other c.index-front-other.result in
    let own_at : own ≡ get_or back 0 own = ap (get_or back 0) c.index-back-0-then-other-place.is in
    let its_at : its ≡ get_or front c.args.other its = ap (get_or front c.args.other) c.index-front-other.is in
    let later = c.carry_out-then-other-place.new.segment in
    let before : c.args.other < c.args.place = c.if-other-place.true in
    let stands = place_in_back c.args.segments.now front back c.args.place c.args.other own its later split.value split.front_len before some own_at its_at in
    carried c.args.roster c.args.segments.now c.args.place c.args.other own (Some its) c.args.messages.now.items c.args.step.now
    c.carry_out-then-other-place.result later _ c.carry_out-then-other-place.new.messages.items stands c.carry_out-then-other-place.ensures

pub returns : goal.returns
returns c = grind (arith, common_steps, one_place)
