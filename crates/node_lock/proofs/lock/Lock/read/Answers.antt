use Rattle.std.proofs.Common.{refl, ap, subst, ◌∙◌, sym, Some}
use Rattle.std.specs.Fn.{FnOnceReturnsAtMut}
use Rattle.node_lock.specs.Trail.{HasReceipts}
use Rattle.node_lock.specs.Section.{SectionData}
use Rattle.node_lock.proofs.lock.Lock.read.Goals as goal

pub give-requires-clause-trail : goal.give-requires-clause-trail
give-requires-clause-trail g c = let kept = c.requires.keeps c.take-state.result c.call-answer.new.arg2 c.call-answer.result c.take-state.ensures.state
    (record { shown = _; shows = refl; left = _; met = c.call-answer.ensures; leaves = refl }) in
    ap (λ p. p.out) c.take-state.ensures.pass ∙ ap Some (sym kept.1)

pub give-requires-clause-state : goal.give-requires-clause-state
give-requires-clause-state g c = (c.requires.keeps c.take-state.result c.call-answer.new.arg2 c.call-answer.result c.take-state.ensures.state
    (record { shown = _; shows = refl; left = _; met = c.call-answer.ensures; leaves = refl })).0

pub returns-clause-state : goal.returns-clause-state
returns-clause-state g c =
    let kept = c.requires.keeps c.take-state.result c.call-answer.new.arg2 c.call-answer.result c.take-state.ensures.state
    (record { shown = _; shows = refl; left = _; met = c.call-answer.ensures; leaves = refl }) in
    let before = ap (λ (s : SectionData g.row.S.Denot). s.before) c.of-section.ensures ∙ c.of-found.ensures in
    let after = ap (λ (s : SectionData g.row.S.Denot). s.after) c.of-section.ensures in
    subst (λ b. g.S.Trailed.keeps b × g.S.Trailed.retains b c.of-section.result.after) (sym before)
    (c.take-state.ensures.state, subst (g.S.Trailed.retains c.take-state.result) (sym after) kept.2)

pub returns-clause-has : goal.returns-clause-has
returns-clause-has g c =
    let before = ap (λ (s : SectionData g.row.S.Denot). s.before) c.of-section.ensures ∙ c.of-found.ensures in
    subst (λ b. HasReceipts (g.S.Trailed.trail b) c.args.pass.now.number c.args.pass.now.list) (sym before) c.take-state.ensures.has

pub returns-clause-answer : goal.returns-clause-answer
returns-clause-answer g c =
    let before = ap (λ (s : SectionData g.row.S.Denot). s.before) c.of-section.ensures ∙ c.of-found.ensures in
    let after = ap (λ (s : SectionData g.row.S.Denot). s.after) c.of-section.ensures in
    subst (λ b. FnOnceReturnsAtMut g.F.FnOnce c.args.call b c.call-answer.result c.of-section.result.after) (sym before)
    (subst (λ a. FnOnceReturnsAtMut g.F.FnOnce c.args.call c.take-state.result c.call-answer.result a) (sym after)
    record { shown = _; shows = refl; left = _; met = c.call-answer.ensures; leaves = refl })
