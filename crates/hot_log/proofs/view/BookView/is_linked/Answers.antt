use Rattle.std.proofs.Common.{◌≡◌, ◌≤◌, sym, subst, arith, ⊎_elim}
use Rattle.std.proofs.lemmas.Bool.{eqb-true, false≢true}
use Rattle.redo_core.specs.Linked.Linked.{start}
use Rattle.hot_log.specs.Alive.{IsLinkedFrom}
use Rattle.hot_log.proofs.Chain.{link_cases, link_at_least, link_step, Link}
use Rattle.hot_log.proofs.view.BookView.is_linked.Goals as goal

pub loop-at-preserved : goal.loop-at-preserved
loop-at-preserved c =
    let b = c.args.self.now.book.now in let held = c.args.self.now.held.now in let from = c.args.from in
    let found = c.in-Some.ensures in
    let step = link_step b.cuts held b.complete from c.loop-at.at c.in-Some.redo.now found.0.0.0 found.0.0.1 found.0.1 found.1 c.loop-at-test.true in
    let back = c.back-at.ensures.value in (
      λ l. subst (IsLinkedFrom b held from) (sym back) (step.0 (c.loop-at.invariant.0 l)),
      λ l. c.loop-at.invariant.1 (step.1 (subst (IsLinkedFrom b held from) back l)),
    )

pub returns-in-None : goal.returns-in-None
returns-in-None c =
    let b = c.args.self.now.book.now in let held = c.args.self.now.held.now in let from = c.args.from in let at = c.loop-at.at in (
      λ h. absurd (false≢true h),
      λ l. absurd (⊎_elim
          (λ (e : at ≡ from). omega (arith, e, c.loop-at-test.true))
          (λ (u : Link b.cuts held b.complete from at). c.in-None.ensures u.by ((u.among, u.alive), u.at))
          (link_cases b.cuts held b.complete from at (c.loop-at.invariant.0 l))),
    )

pub returns : goal.returns
returns c =
    let b = c.args.self.now.book.now in let held = c.args.self.now.held.now in let from = c.args.from in let at = c.loop-at.at in (
      λ t. c.loop-at.invariant.1 (subst (IsLinkedFrom b held from) (sym (eqb-true at from t)) start),
      λ h. let low : from ≤ at = link_at_least b.cuts held b.complete from at (c.loop-at.invariant.0 h) in
          let same : at ≡ from = omega (arith, c.loop-at-test.false) in
          grind arith,
    )
