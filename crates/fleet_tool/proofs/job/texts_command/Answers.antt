use Rattle.std.proofs.Common.{◌≡◌, ◌∙◌, ap, ap₂, codes}
use Rattle.std.proofs.lemmas.Result.{IfOk-weaker}
use Rattle.clap.specs.Words.{App, shape_of, new_app, with_subcommand}
use Rattle.fleet_tool.specs.CommandLine.{lines_shape}
use Rattle.fleet_tool.proofs.job.texts_command.Goals as goal

pub returns : goal.returns
returns c =
    let inspect_is : shape_of c.after_help-inspect.result ≡ (new_app (codes "inspect")).top = rw (c.after_help-inspect.ensures, c.about.ensures)
    (ap (λ (a : App). a.top) c.new.ensures.app) in
    let first = c.in_ok-with_run.ensures ∙ ap (λ (a : App). with_subcommand a (lines_shape (codes "run"))) c.program.ensures in
    let second = c.in_ok-with_check.ensures ∙ ap (λ (a : App). with_subcommand a (lines_shape (codes "check"))) first in
    IfOk-weaker c.subcommand.result _ _
    (λ r h. h.shape (rw (c.after_help-inspect.ensures, c.about.ensures) c.new.ensures.local) ∙ ap₂ with_subcommand second inspect_is) c.subcommand.ensures
