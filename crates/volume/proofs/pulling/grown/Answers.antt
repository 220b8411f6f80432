use Rattle.std.proofs.Common.{subst}
use Rattle.segment_theorems.specs.State.{State}
use Rattle.gossip_core.proofs.InOneLog.{both}
use Rattle.volume.specs.Opening.{GrowsBy}
use Rattle.volume.proofs.pulling.grown.Goals as goal

pub returns-in-Ok-clause-grows : goal.returns-in-Ok-clause-grows
returns-in-Ok-clause-grows c =
    let delta = c.args.delta.now in
    subst (λ (s : State). GrowsBy s c.args.summary.now delta c.absorb.new.segment) c.in_ok-union.ensures
    (record {
      means = λ made answers. both _ made delta _ c.opens_form.ensures.form answers c.in-Ok.ensures.absorbs;
      answers = c.in-Ok.ensures.answers;
      absorbs = c.in-Ok.ensures.absorbs;
    })
