use Rattle.std.proofs.Common.{◌<◌, ◌≤◌, inl, ⊎_elim, refl, sym, List, subst, arith}
use Rattle.std.proofs.lemmas.Bool.{ltb-true}
use Rattle.std.specs.List.{All}
use Rattle.redo_core.specs.Data.{CutData}
use Rattle.snapshot.proofs.Placed.{kept, spared}
use Rattle.redo_core.specs.Standing.{IsAlive, SparesIn}
use Rattle.snapshot.proofs.placing.is_kept.Goals as goal

pub returns-then-anchor-number : goal.returns-then-anchor-number
returns-then-anchor-number c =
    let b = c.args.book.now in
    let r = c.args.redo.now in
    let e = c.epoch.ensures in
    let k = c.complete.ensures.complete in
    let known : r.epoch ≤ b.complete = omega (arith, e, k, c.if-epoch-complete.false) in (
      λ t. kept b c.args.anchor r known (omega (arith, c.number.ensures.value, c.if-anchor-number.true))
          (subst (λ n. All (SparesIn n r.epoch r.number) b.cuts) c.complete-then-anchor-number.ensures.complete
          (subst (λ (cs : List CutData). All (SparesIn c.complete-then-anchor-number.result r.epoch r.number) cs) c.cuts.ensures.cuts
          (c.are_sparing.ensures.0 t))),
      λ h. c.are_sparing.ensures.1
          (subst (λ (cs : List CutData). All (SparesIn c.complete-then-anchor-number.result r.epoch r.number) cs) (sym c.cuts.ensures.cuts)
          (subst (λ n. All (SparesIn n r.epoch r.number) b.cuts) (sym c.complete-then-anchor-number.ensures.complete) (spared b c.args.anchor r known h))),
    )

pub returns-then-epoch-complete : goal.returns-then-epoch-complete
returns-then-epoch-complete c = (λ _. inl (omega (arith, c.epoch.ensures, c.complete.ensures.complete, c.if-epoch-complete.true)), λ _. refl)

pub returns-else-anchor-number : goal.returns-else-anchor-number
returns-else-anchor-number c =
    let b = c.args.book.now in let r = c.args.redo.now in
    let known : r.epoch ≤ b.complete = omega (arith, c.epoch.ensures, c.complete.ensures.complete, c.if-epoch-complete.false) in (
      λ h. absurd (let above = ltb-true c.args.anchor c.number.result h in omega (arith, above, c.if-anchor-number.false)),
      λ kept. absurd (⊎_elim
          (λ (w : b.complete < r.epoch). omega (arith, w, known))
          (λ (a : IsAlive b.cuts b.complete r.epoch r.number × (c.args.anchor < r.number)).
          let above = a.1 in omega (arith, above, c.number.ensures.value, c.if-anchor-number.false))
          kept),
    )
