use Rattle.std.proofs.lemmas.Grind.{common_steps}
use Rattle.std.proofs.Common.{◌≡◌, ◌≤◌, ◌+◌, ◌⊎◌, ⊎_elim, refl, sym, subst, arith}
use Rattle.redo_core.specs.Sets.{advances}
use Rattle.redo_core.specs.Past.{IsPast}
use Rattle.reference_model.proofs.past.are_past.Goals as goal

pub loop-place-preserved : goal.loop-place-preserved
loop-place-preserved c reader r =
    ⊎_elim
    (λ (l : reader ≤ c.loop-place.place). c.loop-place.invariant reader (r.0, l))
    (λ (e : reader ≡ c.loop-place.place + 1). subst (IsPast (advances c.args.log.now) c.args.cut.now) (sym e) (c.if-not-is_past.ensures.0 refl))
    (let t : (reader ≤ c.loop-place.place) ⊎ (reader ≡ c.loop-place.place + 1) = grind (arith, r.1) in t)

pub returns : goal.returns
returns c = grind (arith, common_steps)

pub returns-then-not-is_past : goal.returns-then-not-is_past
returns-then-not-is_past c = grind (arith, common_steps)
