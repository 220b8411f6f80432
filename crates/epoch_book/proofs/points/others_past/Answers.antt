use Rattle.std.proofs.Common.{◌↔◌, IsTrue, ltb, ap, ◌∙◌, subst}
use Rattle.std.specs.List.{filter}
use Rattle.redo_core.specs.Data.{AdvanceData}
use Rattle.redo_core.specs.Past.{OthersPast}
use Rattle.epoch_book.proofs.Earlier.{others_past_earlier}
use Rattle.epoch_book.proofs.points.others_past.Goals as goal

pub returns : goal.returns
returns c =
    let ps = c.args.points.now in let ws = c.args.waits.now in let cut = c.args.cut in let but = c.args.but in
    let begun = c.earlier.ensures ∙ ap (λ n. filter (λ (a : AdvanceData). ltb a.epoch n) ws) (c.from.ensures ∙ c.epoch.ensures.value) in
    let same = others_past_earlier ps ws cut but in
    let both = subst (λ l. IsTrue c.are_past.result ↔ OthersPast ps l cut but) begun c.are_past.ensures in
    (λ h. same.0 (both.0 h), λ h. both.1 (same.1 h))
