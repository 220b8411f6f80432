use Rattle.std.proofs.Common.{◌≡◌, ◌∙◌, ap, ap₂, rules}
use Rattle.std.proofs.lemmas.Result.{IfOk-weaker}
use Rattle.clap.specs.Words.{App, app_of, new_app, rule_of, with_rule}
use Rattle.fleet_tool.specs.CommandLine.{explain_rule}
use Rattle.fleet_tool.proofs.job.lines_command.Goals as goal

pub returns : goal.returns
returns c =
    let rule_is : rule_of c.action-explain.result ≡ explain_rule = search rules in
    let named : app_of c.after_help.result ≡ new_app c.args.name.now = rw (c.after_help.ensures, c.about.ensures) c.new-2.ensures.app in
    IfOk-weaker c.arg.result _ _ (λ r h. ap (λ (a : App). a.top) (h.shape (search rules) ∙ ap₂ with_rule named rule_is)) c.arg.ensures
