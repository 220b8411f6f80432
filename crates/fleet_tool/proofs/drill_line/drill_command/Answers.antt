use Rattle.std.proofs.Common.{◌≡◌, ◌∙◌, ap, ap₂, codes}
use Rattle.std.proofs.lemmas.Result.{IfOk-weaker}
use Rattle.clap.specs.Words.{App, app_of, new_app, with_rule}
use Rattle.fleet_tool.specs.DrillLine.{number_rule}
use Rattle.fleet_tool.proofs.drill_line.drill_command.Goals as goal

pub returns : goal.returns
returns c =
    let named : app_of c.after_help.result ≡ new_app (codes "drill") = rw (c.after_help.ensures, c.about.ensures) c.new.ensures.app in
    let first : app_of c.in_ok-arg.field-0 ≡ with_rule (new_app (codes "drill")) (number_rule (codes "nodes") 6 (codes "3")) =
    c.in_ok-arg.ensures.shape c.number_arg.ensures.own ∙ ap₂ with_rule named c.number_arg.ensures.rule in
    let second : app_of c.in_ok-arg-2.field-0 ≡ with_rule (with_rule (new_app (codes "drill")) (number_rule (codes "nodes") 6 (codes "3")))
    (number_rule (codes "workers") 16 (codes "4")) =
    c.in_ok-arg-2.ensures.shape c.number_arg-2.ensures.own ∙ ap₂ with_rule first c.number_arg-2.ensures.rule in
    IfOk-weaker c.arg-3.result _ _ (λ r h. ap (λ (a : App). a.top) (h.shape c.size_arg.ensures.own ∙ ap₂ with_rule second c.size_arg.ensures.rule)) c.arg-3.ensures
