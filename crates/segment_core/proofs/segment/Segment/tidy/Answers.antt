use Rattle.std.proofs.Common.{◌≡◌, ℕ, Ok, Err, sym, subst, rules}
use Rattle.redo_core.specs.Standing.{IsDead}
use Rattle.segment_theorems.specs.State.{State, state_of}
use Rattle.segment_theorems.specs.Promises.{KeepsMeaning}
use Rattle.segment_core.specs.Forgetting.{with_store, DiscardsJust, FoldsAll, Tidies, IsFirstBreak}
use Rattle.segment_core.specs.declared.answers.ReadFault.TheVariants.{BrokenBlockChain, Memory}
use Rattle.segment_core.proofs.Following.{removal_keeps_points}
use Rattle.segment_core.proofs.FirstBreak.{tells_first, tells_whole, sound_whole}
use Rattle.segment_core.proofs.Tidying.{RemovesJustDead, removals_keep, tidies_of, holds_kept, keeps_on}
use Rattle.segment_core.proofs.DuePages.{fewer_held}
use Rattle.segment_core.proofs.segment.Segment.tidy.Goals as goal

-- the state as it was, after the discard, and without the dead records
unfoldable before : goal.After-remove_dead → State
before c = state_of c.self.inside.book c.self.inside.hot c.self.inside.base c.self.inside.store

unfoldable discarded : goal.After-remove_dead → State
discarded c = state_of c.self-2.inside.book c.self-2.inside.hot c.self-2.inside.base c.self-2.inside.store

unfoldable after : goal.After-remove_dead → State
after c = state_of c.self-2.inside.book c.remove_dead.new.self c.self-2.inside.base c.self-2.inside.store

folds : (c : goal.After-remove_dead) → FoldsAll (before c) c.in-Ok.store
unfolding before
folds c = subst (λ s. FoldsAll s c.in-Ok.store) (sym c.self.view_is) c.in-Ok.ensures.folds

discards : (c : goal.After-remove_dead) → DiscardsJust (with_store (before c) c.in-Ok.store) (discarded c)
unfolding before discarded
discards c = subst (DiscardsJust (with_store (before c) c.in-Ok.store)) (sym c.self-2.view_is) c.discard.ensures.discards

removes : (c : goal.After-remove_dead) → RemovesJustDead (discarded c) (after c)
unfolding discarded after
removes c = search rules

tidies : (c : goal.After-remove_dead) → Tidies c.args.self.now (after c)
unfolding before
tidies c =
    subst (λ (s : State). Tidies s (after c)) c.self.view_is
    (tidies_of (before c) (discarded c) (after c) c.in-Ok.store (folds c) (discards c) (removes c))

pub invariant_of-self-2 : goal.invariant_of-self-2
invariant_of-self-2 c =
    let i = c.self-2.inside in
    let is = c.self-2.invariant in (
      is.0,
      c.remove_dead.ensures.form,
      is.2,
      is.3,
      removal_keeps_points i.book i.hot c.remove_dead.new.self (λ r. IsDead i.book.cuts i.book.complete r.epoch r.number) i.base i.points
          c.remove_dead.ensures.removes (λ r h lt dead. dead.1 h.1) is.4,
      fewer_held i.book i.hot c.remove_dead.new.self i.store i.due (λ r h. ((c.remove_dead.ensures.removes r).0 h).0) is.5,
    )

pub returns-clause-keeps : goal.returns-clause-keeps
unfolding before discarded after
returns-clause-keeps c =
    let kept = subst (KeepsMeaning (with_store (before c) c.in-Ok.store)) (sym c.self-2.view_is) c.discard.ensures.keeps in
    subst (λ s. KeepsMeaning s (after c)) c.self.view_is
    (keeps_on (before c) (discarded c) (after c) (keeps_on (before c) (with_store (before c) c.in-Ok.store) (discarded c) (folds c).keeps kept)
    (removals_keep (discarded c) (after c) (removes c)))

pub returns-clause-kept : goal.returns-clause-kept
unfolding after
returns-clause-kept c = holds_kept c.args.self.now (after c) (tidies c)

pub returns-clause-tidies : goal.returns-clause-tidies
unfolding after
returns-clause-tidies c = tidies c

-- ---- a broken block chain, or lack of memory
broken : (c : goal.In-Some) → IsFirstBreak c.args.self.now c.in-Some.page c.in-Some.number
broken c = (c.first_break.ensures.first c.in-Some.page c.in-Some.number).0 c.in-Some.is

pub returns-in-Some-clause-sound : goal.returns-in-Some-clause-sound
returns-in-Some-clause-sound c = λ sound. absurd (sound_whole c.args.self.now sound c.in-Some.page c.in-Some.number (broken c).breaks)

pub returns-in-Some-clause-broken : goal.returns-in-Some-clause-broken
returns-in-Some-clause-broken c =
    let x : ℕ × ℕ = (c.in-Some.page, c.in-Some.number) in
    tells_first c.args.self.now c.first_break.result x c.in-Some.is c.first_break.ensures.first

pub returns-in-Some-clause-refused : goal.returns-in-Some-clause-refused
returns-in-Some-clause-refused c = broken c

pub returns-in_default-folded_store-clause-broken : goal.returns-in_default-folded_store-clause-broken
returns-in_default-folded_store-clause-broken c = tells_whole c.args.self.now (Err Memory) (c.first_break.ensures.none c.in_default.is)
    (λ g n (e : Err Memory ≡ Err (BrokenBlockChain g n)). absurd (cc))

pub returns-in_default-folded_store-clause-refused : goal.returns-in_default-folded_store-clause-refused
returns-in_default-folded_store-clause-refused c = c.first_break.ensures.none c.in_default.is

pub returns-clause-broken : goal.returns-clause-broken
returns-clause-broken c = tells_whole c.args.self.now (Ok tt) (c.first_break.ensures.none c.in_default.is)
    (λ g n (e : Ok tt ≡ Err (BrokenBlockChain g n)). absurd (cc))
