use Rattle.std.proofs.Common.{◌<◌, inr, subst, arith}
use Rattle.volume.specs.Data.{VolumeData, volume_of}
use Rattle.volume.specs.Stepping.{HearsNode}
use Rattle.volume.proofs.Turned.{turned}
use Rattle.volume.proofs.volume.Volume.hear.Goals as goal

pub returns-clause-hears : goal.returns-clause-hears
returns-clause-hears c =
    let i = c.self.inside in let node = c.args.node in let turn = c.in_ok-turn.turn in let left = c.hear_in.new.phase in
    let v : VolumeData = volume_of i.settings i.generation i.phase in
    let lt : node < i.settings.nodes = omega arith in
    let here : HearsNode v node c.args.reply c.turn.result.items c.turn.new.self =
    inr (lt, (left, turn, c.in_ok-turn.ensures.hears, turned v left turn c.turn.result.items c.turn.new.self c.turn.ensures)) in
    subst (λ (old : VolumeData). HearsNode old node c.args.reply c.turn.result.items c.turn.new.self) c.self.view_is here
