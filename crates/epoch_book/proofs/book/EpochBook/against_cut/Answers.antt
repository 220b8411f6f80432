use Rattle.std.proofs.lemmas.Grind.{common_steps}
use Rattle.std.proofs.Common.{◌≤◌, ◌≡◌, subst, arith, refl, IfSome}
use Rattle.std.specs.List.{Contains}
use Rattle.redo_core.specs.Order.{AdvanceBefore}
use Rattle.redo_core.specs.Roster.{least}
use Rattle.epoch_book.specs.Book.{IsBook}
use Rattle.epoch_book.specs.Refusing.{LacksCut, RefusesCut, Contradict, OthersPast, IsFirst}
use Rattle.epoch_book.specs.declared.refusals.BookRefusal.TheVariants.{Contradiction}
use Rattle.epoch_book.proofs.OneReason.{mapped_to_held}
use Rattle.epoch_book.proofs.book.EpochBook.against_cut.Goals as goal

pub returns-clause-some : goal.returns-clause-some
returns-clause-some c =
    let ps = c.self.inside.points in let ws = c.self.inside.waits in
    let min : c.least-min.result ≡ least ps = c.least-min.ensures.value in
    let within : least ps ≤ c.args.cut.lo = omega arith in
    let past : OthersPast ps ws c.args.cut 0 = subst (λ xs. OthersPast ps xs c.args.cut 0) c.as_slice.ensures (c.if-not-others_past.ensures.0 refl) in
    subst (λ b. IfSome c.map.result (λ h. LacksCut b.cuts c.args.cut.epoch → RefusesCut b c.args.cut (Contradiction h))) c.self.view_is
    (mapped_to_held c.first_against.result c.map.result (IsFirst AdvanceBefore (λ a. Contains c.as_slice-2.result.now a × Contradict c.args.cut a)) _
    c.map.ensures.cases c.first_against.ensures.first
    (λ x first lacks. (
      lacks,
      within,
      past,
      subst (λ xs. IsFirst AdvanceBefore (λ a. Contains xs a × Contradict c.args.cut a) x) c.as_slice-2.ensures
          first,
    )))

pub returns-then-not-others_past-clause-book : goal.returns-then-not-others_past-clause-book
returns-then-not-others_past-clause-book c = subst IsBook c.self.view_is c.self.invariant.0

pub returns-clause-book : goal.returns-clause-book
returns-clause-book c = subst IsBook c.self.view_is c.self.invariant.0

pub first_against-requires : goal.first_against-requires
first_against-requires c = grind (arith, common_steps)

pub returns-then-lo-min-clause-some : goal.returns-then-lo-min-clause-some
returns-then-lo-min-clause-some c = grind (arith, common_steps)

pub returns-then-lo-min-clause-book : goal.returns-then-lo-min-clause-book
returns-then-lo-min-clause-book c = grind (arith, common_steps)

pub returns-clause-none : goal.returns-clause-none
returns-clause-none c = grind (arith, common_steps)
