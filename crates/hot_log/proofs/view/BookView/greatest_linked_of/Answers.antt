use Rattle.std.proofs.Common.{◌≡◌, ◌<◌, ◌≤◌, ⊎_elim, sym, refl, subst, arith}
use Rattle.std.proofs.lemmas.Bool.{false≢true}
use Rattle.redo_core.specs.Data.{RecordData}
use Rattle.hot_log.specs.Alive.{IsLinkedFrom}
use Rattle.hot_log.proofs.view.BookView.greatest_linked_of.Goals as goal

pub loop-redo-init : goal.loop-redo-init
loop-redo-init c = record { bound = omega arith; none = λ r h. h.2 }

pub returns-then-is_linked : goal.returns-then-is_linked
returns-then-is_linked c = let view = c.args.self.now in
    let x = c.in-Some.redo.now in let t = c.in-Some.ensures.found in
    let linked : IsLinkedFrom view.book.now view.held.now c.args.from x.number = subst (IsLinkedFrom view.book.now view.held.now c.args.from) c.number.ensures.value (c.if-is_linked.ensures.0 refl) in
    let le : x.number ≤ c.args.limit = omega (arith, t.0.1, c.loop-redo.invariant.bound) in
    (((t.0.0.0, t.0.0.1, linked), t.0.0.2, le), λ s h. t.1 s ((h.0.0, h.0.1, h.1), c.loop-redo.invariant.none s h))

pub loop-redo-smaller : goal.loop-redo-smaller
loop-redo-smaller c = let le : c.in-Some.redo.now.number ≤ c.loop-redo.to = c.in-Some.ensures.found.0.1 in omega arith

pub loop-redo-preserved : goal.loop-redo-preserved
loop-redo-preserved c = let view = c.args.self.now in
    let x = c.in-Some.redo.now in let t = c.in-Some.ensures.found in
    record {
      bound = omega (arith, t.0.1, c.loop-redo.invariant.bound);
      none = λ r h. ⊎_elim
          (λ (e : r ≡ x). absurd (
          let linked : IsLinkedFrom view.book.now view.held.now c.args.from x.number = subst (λ (y : RecordData). IsLinkedFrom view.book.now view.held.now c.args.from y.number) e h.0.2 in
          let yes = c.if-is_linked.ensures.1 (subst (IsLinkedFrom view.book.now view.held.now c.args.from) (sym c.number.ensures.value) linked) in false≢true yes))
          (λ (l : r.number < x.number). omega arith)
          (t.1 r ((h.0.0, h.0.1, h.1), c.loop-redo.invariant.none r h));
    }

pub returns : goal.returns
returns c r h = c.in_default.ensures.found r ((h.0.0, h.0.1, h.1), c.loop-redo.invariant.none r h)
