use Rattle.std.proofs.Common.{subst, Some, None, rules}
use Rattle.std.proofs.lemmas.Bool.{iff_false}
use Rattle.hot_log.specs.Held.{IsRecordAt}
use Rattle.fleet_core.proofs.Uncopied.{takes_settled, takes_held, refuses_other, lacks_memory}
use Rattle.fleet_core.proofs.taking.uncopied_reply.Goals as goal
use Rattle.redo_core.specs.declared.keys.Key.{Key}

pub returns-then-is_stable : goal.returns-then-is_stable
returns-then-is_stable c = search (rules, takes_settled)

pub returns-then-is_same : goal.returns-then-is_same
returns-then-is_same c =
    let s = c.args.segment.now in
    let r = c.args.redo.now in
    takes_held s r c.in-Some.held.now c.opens_form.ensures.form.held
    (iff_false c.is_stable.ensures c.if-is_stable.false)
    (subst (λ (k : Key). IsRecordAt s.held k (Some c.in-Some.held.now)) c.key.ensures.value c.in-Some.ensures)
    (c.is_same.ensures.0 c.if-is_same.true)

pub returns-else-is_same : goal.returns-else-is_same
returns-else-is_same c =
    let s = c.args.segment.now in
    let r = c.args.redo.now in
    refuses_other s r c.in-Some.held.now c.opens_form.ensures.form.held
    (iff_false c.is_stable.ensures c.if-is_stable.false)
    (subst (λ (k : Key). IsRecordAt s.held k (Some c.in-Some.held.now)) c.key.ensures.value c.in-Some.ensures)
    (iff_false c.is_same.ensures c.if-is_same.false)

pub returns-in-None : goal.returns-in-None
returns-in-None c =
    let s = c.args.segment.now in
    let r = c.args.redo.now in
    lacks_memory s r c.opens_form.ensures.form.held
    (iff_false c.is_stable.ensures c.if-is_stable.false)
    (subst (λ (k : Key). IsRecordAt s.held k None) c.key.ensures.value c.in-None.ensures)
