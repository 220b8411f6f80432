use Rattle.std.proofs.Common.{◌≡◌, Bool, true, false, not, rules, sym, subst, arith}
use Rattle.segment_core.specs.Points.{IsSparedChain}
use Rattle.segment_core.proofs.Opening.{flag_set, spared_start, spared_step, spared_record}
use Rattle.segment_core.proofs.points.Points.spared.Goals as goal

pub loop-number-init : goal.loop-number-init
loop-number-init c = spared_start c.args.view.now.book.now c.args.view.now.held.now c.args.base c.args.limit c.args.self c.requires

pub loop-number-preserved : goal.loop-number-preserved
loop-number-preserved c =
    let b = c.args.view.now.book.now in
    let held = c.args.view.now.held.now in
    let found = c.in-Some.ensures.0 in
    subst (λ n. IsSparedChain b held c.args.base (record { limit = c.args.limit; number = n })) (sym c.back-number.ensures.value)
    (spared_step b held c.args.base c.args.limit c.loop-number.number c.args.self c.in-Some.redo.now c.opens_form-2.ensures.form c.opens_form.ensures.form c.requires
    (flag_set c.args.self.straight c.if-not-self.false) (omega arith) (omega arith) found.0 found.1 c.loop-number.invariant)

pub returns-in-None : goal.returns-in-None
returns-in-None c = λ t.
    let r = spared_record c.args.view.now.book.now c.args.view.now.held.now c.args.base c.args.limit c.loop-number.number (omega arith) c.loop-number.invariant in
    absurd (c.in-None.ensures r.0 (r.1, r.2))

pub returns-else-limit-number : goal.returns-else-limit-number
returns-else-limit-number c = λ t. c.loop-number.invariant

pub returns-after-loop-number : goal.returns-after-loop-number
returns-after-loop-number c = λ t. c.loop-number.invariant
