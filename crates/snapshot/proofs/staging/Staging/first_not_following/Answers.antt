use Rattle.std.proofs.Common.{refl}
use Rattle.snapshot.proofs.Placed.{one_place_more}
use Rattle.snapshot.proofs.staging.Staging.first_not_following.Goals as goal

pub loop-index-preserved : goal.loop-index-preserved
loop-index-preserved c = one_place_more c.args.self.now c.loop-index.index c.loop-index.invariant (c.if-not-can_stand.ensures.0 refl)
