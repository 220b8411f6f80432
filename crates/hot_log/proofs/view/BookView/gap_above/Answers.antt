use Rattle.std.proofs.Common.{ℕ, ◌∙◌, sym, subst}
use Rattle.hot_log.specs.Alive.{IsLinkedFrom}
use Rattle.hot_log.proofs.Hanging.{hanging_first, hanging_down}
use Rattle.hot_log.proofs.view.BookView.gap_above.Goals as goal

pub loop-below-init : goal.loop-below-init
loop-below-init c = hanging_first c.args.self.now.book.now c.args.self.now.held.now c.args.number c.in_ok-redo.redo.now c.in_ok-redo.ensures.form c.in_ok-redo.ensures.found

pub loop-below-preserved : goal.loop-below-preserved
loop-below-preserved c =
    let found = c.in-Some.ensures.0 in
    hanging_down c.args.self.now.book.now c.args.self.now.held.now c.args.number c.loop-below.redo.now c.in-Some.below.now c.opens_form.ensures.form found.0 (found.1 ∙ c.back.ensures.value) c.loop-below.invariant

pub returns : goal.returns
returns c =
    let w = c.loop-below.invariant in (
      w.first,
      w.is,
      (
        subst (λ (m : ℕ). IsLinkedFrom c.args.self.now.book.now c.args.self.now.held.now m w.first.number) (sym c.back-2.ensures.value) w.linked,
        λ s h e. c.in_default.ensures s (h, e ∙ (c.back-2.ensures.value ∙ sym c.back.ensures.value)),
      ),
    )
