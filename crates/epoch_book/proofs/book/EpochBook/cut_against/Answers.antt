use Rattle.std.proofs.Common.{◌≡◌, ◌<◌, IfSome, refl, sym, subst, ap, ◌∙◌, ltb}
use Rattle.std.specs.List.{All, Contains, filter}
use Rattle.redo_core.specs.Data.{CutData}
use Rattle.redo_core.specs.Order.{IsRising, IsFirst, CutBefore}
use Rattle.redo_core.specs.Past.{CutsBelow}
use Rattle.redo_core.proofs.Rising.{rising_filter}
use Rattle.epoch_book.specs.Book.{BookData, book_of}
use Rattle.epoch_book.proofs.Against.{first_by, none_by, first_of_all, none_of_all}
use Rattle.epoch_book.proofs.book.EpochBook.cut_against.Goals as goal

later_are : (c : goal.After-later-later) → c.later-later.result.now ≡ filter (λ (x : CutData). ltb c.self.inside.complete x.epoch) c.self.inside.cuts.items
later_are c = c.later-later.ensures ∙ ap (filter (λ (x : CutData). ltb c.self.inside.complete x.epoch)) c.deref.ensures.value

pub first_against-requires-clause-rising : goal.first_against-requires-clause-rising
first_against-requires-clause-rising c =
    subst (IsRising CutBefore) (sym (later_are c))
    (rising_filter CutBefore (λ (x : CutData). ltb c.self.inside.complete x.epoch) c.self.inside.cuts.items c.self.invariant.0.cuts_rise)

pub returns-then-is_spared-clause-first : goal.returns-then-is_spared-clause-first
returns-then-is_spared-clause-first c =
    let b = book_of c.self.inside.cuts.items c.self.inside.complete c.self.inside.points c.self.inside.waits in
    let a = c.args.advance in
    let later = subst (λ (b : BookData). (x : CutData) → Contains b.cuts x → CutsBelow b.complete b.points b.waits x a → b.complete < x.epoch)
    (sym c.self.view_is) (c.if-is_spared.ensures refl) in
    subst (λ b. IfSome c.first_against.result (IsFirst CutBefore (λ x. Contains b.cuts x × CutsBelow b.complete b.points b.waits x a))) c.self.view_is
    (first_by b a c.first_against.result c.later-later.result.now c.as_slice-waits.result.now c.as_slice-waits.ensures (later_are c.before) later
    c.first_against.ensures.first)

pub returns-then-is_spared-clause-none : goal.returns-then-is_spared-clause-none
returns-then-is_spared-clause-none c = λ h.
    let b = book_of c.self.inside.cuts.items c.self.inside.complete c.self.inside.points c.self.inside.waits in
    let a = c.args.advance in
    let later = subst (λ (b : BookData). (x : CutData) → Contains b.cuts x → CutsBelow b.complete b.points b.waits x a → b.complete < x.epoch)
    (sym c.self.view_is) (c.if-is_spared.ensures refl) in
    subst (λ b. All (λ x. CutsBelow b.complete b.points b.waits x a → ⊥) b.cuts) c.self.view_is
    (none_by b a c.later-later.result.now c.as_slice-waits.result.now c.as_slice-waits.ensures (later_are c.before) later
    (c.first_against.ensures.none h))

pub returns-clause-first : goal.returns-clause-first
returns-clause-first c =
    let b = book_of c.self.inside.cuts.items c.self.inside.complete c.self.inside.points c.self.inside.waits in
    let a = c.args.advance in
    subst (λ b. IfSome c.first_against-2.result (IsFirst CutBefore (λ x. Contains b.cuts x × CutsBelow b.complete b.points b.waits x a))) c.self.view_is
    (first_of_all b a c.first_against-2.result c.deref-2.result.now c.as_slice-waits.result.now c.as_slice-waits.ensures c.deref-2.ensures.value
    c.first_against-2.ensures.first)

pub returns-clause-none : goal.returns-clause-none
returns-clause-none c = λ h.
    let b = book_of c.self.inside.cuts.items c.self.inside.complete c.self.inside.points c.self.inside.waits in
    let a = c.args.advance in
    subst (λ b. All (λ x. CutsBelow b.complete b.points b.waits x a → ⊥) b.cuts) c.self.view_is
    (none_of_all b a c.deref-2.result.now c.as_slice-waits.result.now c.as_slice-waits.ensures c.deref-2.ensures.value (c.first_against-2.ensures.none h))
