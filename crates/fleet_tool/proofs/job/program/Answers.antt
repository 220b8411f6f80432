use Rattle.std.proofs.Common.{ap, true}
use Rattle.clap.specs.Words.{App}
use Rattle.fleet_tool.proofs.job.program.Goals as goal

pub returns : goal.returns
returns c =
    let fleet : App → App = λ a. record a { top = record a.top { subcommand_required = true; disable_help_subcommand = true; has_version = true } } in
    rw (c.disable_help_subcommand.ensures, c.subcommand_required.ensures, c.after_help.ensures, c.version.ensures, c.about.ensures) (ap fleet c.new.ensures.app)
