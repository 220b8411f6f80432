use Rattle.std.proofs.Common.{◌↔◌, sym, subst, ◌∙◌}
use Rattle.std.specs.List.{Contains, cons_option}
use Rattle.std.proofs.lemmas.Bool.{false≢true}
use Rattle.hot_log.proofs.Keyed.{Entry}
use Rattle.hot_log.proofs.Sides.{Below, Passes, passes_one, passed_all, shown}
use Rattle.hot_log.proofs.ahead.Ahead.pass_to.Goals as goal

pub returns-then-not-is_before : goal.returns-then-not-is_before
returns-then-not-is_before c e =
    let all = c.args.self.now in let x = c.args.key in let rest = c.loop-self.self-inside.rest in
    let own : Entry = (c.in-Some.own.now, c.in-Some.field-0-1.now) in
    subst (λ o. Contains (cons_option (shown o) rest) e ↔ (Contains all e × (Below e.0 x → ⊥))) (sym c.in-Some.is)
    (passed_all all x own rest (subst (λ o. Passes all x (shown o) rest) c.in-Some.is c.loop-self.invariant)
    (λ before. let yes = c.is_before.ensures.1 before in absurd (false≢true (sym c.if-not-is_before.true ∙ yes))) e)

pub loop-self-preserved : goal.loop-self-preserved
loop-self-preserved c =
    let all = c.args.self.now in let x = c.args.key in let rest = c.loop-self.self-inside.rest in
    let own : Entry = (c.in-Some.own.now, c.in-Some.field-0-1.now) in
    passes_one all x own rest c.next-self-inside.result c.next-self-inside.new.self
    (subst (λ o. Passes all x (shown o) rest) c.in-Some.is c.loop-self.invariant)
    (c.is_before.ensures.0 c.if-not-is_before.false) c.next-self-inside.ensures.steps
