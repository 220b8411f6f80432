use Rattle.std.proofs.Common.{◌∙◌, ap, ap₂}
use Rattle.std.proofs.lemmas.Result.{IfOk-weaker}
use Rattle.clap.specs.Words.{Shape, with_subcommand}
use Rattle.fleet_tool.proofs.DrillShape.{no_globals}
use Rattle.fleet_tool.proofs.job.command.Goals as goal

pub returns : goal.returns
returns c =
    let own = no_globals _ _ _ _ (ap (λ (s : Shape). s.is_plain) c.in_ok-drill_command.ensures) in
    IfOk-weaker c.subcommand.result _ _ (λ r h. h.shape own ∙ ap₂ with_subcommand c.in_ok-texts_command.ensures c.in_ok-drill_command.ensures) c.subcommand.ensures
