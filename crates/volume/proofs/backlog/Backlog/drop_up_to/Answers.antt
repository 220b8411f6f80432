use Rattle.std.proofs.Common.{rules, ltb, ◌∙◌, ap}
use Rattle.std.proofs.lemmas.Fn.{filter_same}
use Rattle.volume.specs.Writing.{records_above}
use Rattle.volume.proofs.backlog.Backlog.drop_up_to.Goals as goal

pub returns : goal.returns
returns c =
    filter_same _ (λ r. ltb c.args.point r.number) _ (λ x b f k. search rules) _ _ c.retain.ensures.filtered
    ∙ ap (records_above c.args.point) c.self.view_is
