use Rattle.std.proofs.Common.{◌≡◌, ap, ◌∙◌, subst, unwrap_or, rules}
use Rattle.std.specs.Option.{option_copied}
use Rattle.segment_join.specs.Sameness.{ReportsSame}
use Rattle.fleet_core.proofs.Merging.{follows_same}
use Rattle.fleet_core.proofs.Pairing.{unwrap_now}
use Rattle.fleet_core.proofs.pairs.same_beside.Goals as goal

pub returns-in-Ok-clause-follows : goal.returns-in-Ok-clause-follows
returns-in-Ok-clause-follows c = λ readers node than.
    let own = c.args.segment.now in
    let beside = unwrap_or (option_copied c.args.other) own in
    let same : c.unwrap_or.result.now ≡ beside = ap (λ s. s.now) c.unwrap_or.ensures ∙ unwrap_now c.args.other c.args.segment in
    follows_same readers own (option_copied c.args.other) node than c.in-Ok.answer (subst (λ s. ReportsSame own s c.in-Ok.answer) same c.in-Ok.ensures.meanings)

pub returns-in-Ok-clause-calls : goal.returns-in-Ok-clause-calls
returns-in-Ok-clause-calls c = search rules
