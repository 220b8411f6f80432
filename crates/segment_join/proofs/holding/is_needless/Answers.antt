use Rattle.std.proofs.Common.{inl, inr, ⊎_elim, refl, sym, subst, ◌∙◌, arith}
use Rattle.std.proofs.lemmas.Bool.{false≢true}
use Rattle.redo_core.specs.Standing.{IsAlive, IsDead, IsWaiting}
use Rattle.segment_theorems.specs.Means.{IsInImage}
use Rattle.segment_join.specs.Holding.{InOtherImage}
use Rattle.segment_join.proofs.Sparing.{waits_needed}
use Rattle.segment_join.proofs.holding.is_needless.Goals as goal

pub returns-in-Dead : goal.returns-in-Dead
returns-in-Dead c =
    let b = c.args.segment.now.book in let r = c.args.redo.now in (
      λ _. inl (subst (λ e. IsDead b.cuts b.complete e r.number) c.epoch.ensures
          (subst (λ n. IsDead b.cuts b.complete c.epoch.result n) c.number.ensures.value (c.stands.ensures.dead.0 c.in-Dead.is))),
      λ _. refl,
    )

pub returns-in-Waiting : goal.returns-in-Waiting
returns-in-Waiting c =
    let b = c.args.segment.now.book in let r = c.args.redo.now in
    let waits = subst (IsWaiting b.complete) c.epoch.ensures (c.stands.ensures.waiting.0 c.in-Waiting.is) in
    (λ h. absurd (false≢true h), λ needless. absurd (waits_needed c.args.segment.now c.args.other.now r waits needless))

pub returns-then-is_folded : goal.returns-then-is_folded
returns-then-is_folded c =
    let alive = c.stands.ensures.alive.0 c.in-Alive.is in let own = c.if-is_folded.ensures.0 refl in
    (λ _. inr (inl (omega (arith, c.epoch.ensures, alive.known), own.0, own.1)), λ _. c.if-is_folded.true)

pub returns-else-is_folded : goal.returns-else-is_folded
returns-else-is_folded c =
    let s = c.args.segment.now in let b = s.book in let other = c.args.other.now in let r = c.args.redo.now in
    let stands = c.stands.ensures.alive.0 c.in-Alive.is in
    let alive : IsAlive b.cuts b.complete r.epoch r.number = subst (λ e. IsAlive b.cuts b.complete e r.number) c.epoch.ensures
    (subst (λ n. IsAlive b.cuts b.complete c.epoch.result n) c.number.ensures.value stands) in
    let tells = c.is_folded-else-is_folded.ensures in (
      λ t. let others = tells.0 t in inr (inr (alive.known, others.0, others.1)),
      λ needless. tells.1 (⊎_elim
          (λ (dead : IsDead b.cuts b.complete r.epoch r.number). absurd (dead.1 alive))
          (λ in_image. ⊎_elim
          (λ (own : IsInImage s r). absurd (false≢true (sym c.if-is_folded.false ∙ c.is_folded.ensures.1 (own.1, own.2))))
          (λ (others : InOtherImage s other r). (others.1, others.2))
          in_image)
          needless),
    )
