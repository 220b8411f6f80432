use Rattle.std.proofs.Common.{◌≡◌, sym, ◌∙◌, ap, subst}
use Rattle.std.specs.List.{cons_option}
use Rattle.std.proofs.lemmas.Bool.{false≢true}
use Rattle.redo_core.specs.Order.{IsRising}
use Rattle.hot_log.specs.Scanning.{EntryBefore}
use Rattle.hot_log.proofs.Keyed.{Entry}
use Rattle.hot_log.proofs.KeySearch.{equal_keys}
use Rattle.hot_log.proofs.Sides.{is_next, shown}
use Rattle.hot_log.proofs.ahead.Ahead.is_at.Goals as goal

pub returns-else-eq : goal.returns-else-eq
returns-else-eq c =
    let all = c.args.self.now in let rest = c.self.inside.rest in
    let own : Entry = (c.in-Some.own.now, c.in-Some.stored.now) in
    let x : Entry = (c.args.key, c.args.redo.now) in
    let next = is_next all x own rest (subst (λ o. cons_option (shown o) rest ≡ all) c.in-Some.is c.self.view_is)
    (subst (λ o. IsRising EntryBefore (cons_option (shown o) rest)) c.in-Some.is c.self.invariant.rising) c.requires in (
      λ h. absurd (false≢true (sym c.if-eq.false ∙ h)),
      λ h. c.eq.ensures ∙ equal_keys own.0 x.0 (ap (λ (e : Entry). e.0) (next.1 h)),
    )
