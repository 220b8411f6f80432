use Rattle.std.proofs.lemmas.Grind.{common_steps}
use Rattle.std.proofs.Common.{◌≤◌, subst, arith}
use Rattle.redo_core.specs.Standing.{IsAlive}
use Rattle.segment_theorems.specs.State.{State, state_of, version_of}
use Rattle.segment_theorems.specs.HasMeaning.{HasAnchor}
use Rattle.segment_theorems.specs.Promises.{KeepsMeaning}
use Rattle.segment_core.specs.Forgetting.{DiscardsJust}
use Rattle.segment_core.proofs.Following.{removal_keeps_points}
use Rattle.segment_core.proofs.Forget.{discards_keep}
use Rattle.segment_core.proofs.segment.Segment.discard.Goals as goal

-- the state as it was, and without the folded records
unfoldable before : goal.After-discard → State
before c = state_of c.self.inside.book c.self.inside.hot c.self.inside.base c.self.inside.store

unfoldable after : goal.After-discard → State
after c = state_of c.self.inside.book c.discard.new.hot c.self.inside.points.anchor c.self.inside.store

just : (c : goal.After-discard) → DiscardsJust (before c) (after c)
unfolding before after
just c = grind (arith, common_steps)

pub invariant_of-self : goal.invariant_of-self
invariant_of-self c =
    let i = c.self.inside in
    let anchor = i.points.anchor in (
      c.self.invariant.0,
      c.discard.ensures.form,
      c.self.invariant.2,
      c.self.invariant.4.anchor.bound,
      removal_keeps_points i.book i.hot c.discard.new.hot
          (λ r. IsAlive i.book.cuts i.book.complete r.epoch r.number × (r.number ≤ anchor) × (r.number ≤ version_of i.store r.page)) anchor
          c.over-self-inside.result c.discard.ensures.removes
          (λ r h lt gone. let le : r.number ≤ anchor = gone.1 in omega arith)
          c.over-self-inside.ensures,
      c.discard.ensures.due,
    )

pub returns-clause-keeps : goal.returns-clause-keeps
unfolding before after
returns-clause-keeps c = subst (λ s. KeepsMeaning s (after c)) c.self.view_is (discards_keep (before c) (after c) (just c))

pub returns-clause-discards : goal.returns-clause-discards
unfolding before after
returns-clause-discards c = subst (λ (s : State). DiscardsJust s (after c)) c.self.view_is (just c)
