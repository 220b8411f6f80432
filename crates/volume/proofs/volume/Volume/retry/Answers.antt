use Rattle.std.proofs.Common.{◌<◌, inr, subst, arith}
use Rattle.volume.specs.Data.{VolumeData}
use Rattle.volume.specs.Stepping.{Retries}
use Rattle.volume.proofs.volume.Volume.retry.Goals as goal

pub returns-clause-retries : goal.returns-clause-retries
returns-clause-retries c =
    let node = c.args.node in let turn = c.in_ok-turn.turn in
    let lt : node < c.self.inside.settings.nodes = omega arith in
    inr (
      subst (λ (old : VolumeData). node < old.settings.nodes) c.self.view_is lt,
      (turn, subst (λ (old : VolumeData). Retries old.settings old.phase node turn) c.self.view_is c.in_ok-turn.ensures, c.turn.ensures),
    )
