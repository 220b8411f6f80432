use Rattle.std.proofs.Common.{◌∙◌, ap}
use Rattle.std.proofs.lemmas.Result.{IfOk-weaker}
use Rattle.clap.specs.Words.{Shape, app_of, with_subcommand}
use Rattle.fleet_tool.proofs.DrillShape.{no_globals}
use Rattle.fleet_tool.proofs.job.with_lines.Goals as goal

pub returns : goal.returns
returns c =
    let own = no_globals _ _ _ _ (ap (λ (s : Shape). s.is_plain) c.in_ok-lines_command.ensures) in
    IfOk-weaker c.subcommand.result _ _ (λ r h. h.shape own ∙ ap (with_subcommand (app_of c.args.command)) c.in_ok-lines_command.ensures) c.subcommand.ensures
