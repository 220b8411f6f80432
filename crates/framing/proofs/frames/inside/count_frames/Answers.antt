use Rattle.std.proofs.Common.{◌<◌, length, rules}
use Rattle.framing.proofs.Nested.{counted_more, counted_not, shorter}
use Rattle.framing.proofs.frames.inside.count_frames.Goals as goal

pub loop-rest-smaller : goal.loop-rest-smaller
loop-rest-smaller c = shorter c.loop-rest.rest.now c.in-Some.field-0-0.now c.in-Some.behind.now c.in-Some.ensures.bytes

pub loop-rest-preserved : goal.loop-rest-preserved
loop-rest-preserved c = search (rules, counted_more)

pub returns-in_default-clause-none : goal.returns-in_default-clause-none
returns-in_default-clause-none c =
    let some : 0 < length c.loop-rest.rest.now = search rules in
    counted_not c.args.bytes.now c.loop-rest.rest.now c.loop-rest.count c.loop-rest.invariant c.in_default.ensures.none some
