use Rattle.std.proofs.Common.{◌∙◌, sym, subst}
use Rattle.volume.specs.Resuming.{IsResumed}
use Rattle.volume.proofs.resuming.resume.Goals as goal

pub returns : goal.returns
returns c =
    subst (IsResumed c.args.union.now c.args.cut) (sym c.resume.ensures) (record {
      epoch = c.epoch.ensures.value;
      last = c.hi.ensures.value;
      points = c.from_vec.ensures ∙ c.in_ok-from_slice.ensures.items ∙ c.points.ensures.own;
      settled = c.anchor.ensures.own;
      tops = c.requires;
      alive = c.in_ok-alive_above_anchor.ensures c.anchor.result c.anchor.ensures.own;
    })
