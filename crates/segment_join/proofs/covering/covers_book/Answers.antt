use Rattle.std.proofs.Common.{◌≤◌, sym, subst, ◌∙◌}
use Rattle.std.proofs.lemmas.Bool.{false≢true}
use Rattle.std.specs.List.{AllZip, Contains}
use Rattle.redo_core.specs.declared.facts.Fact.TheVariants.{Advance}
use Rattle.segment_theorems.specs.Known.{IsKnown}
use Rattle.segment_core.proofs.Scanning.{of_member}
use Rattle.redo_core.proofs.Members.{all_members}
use Rattle.segment_join.proofs.covering.covers_book.Goals as goal

pub returns-then-not-has_cuts : goal.returns-then-not-has_cuts
returns-then-not-has_cuts c = (
  λ h. absurd (false≢true h),
  λ covers. sym c.if-not-has_cuts.true ∙ c.has_cuts.ensures.1
      (all_members _ c.cuts.result.now (λ x h. covers.cuts x (subst (λ xs. Contains xs x) c.cuts.ensures.value h))),
)

pub returns-then-not-are_at_most : goal.returns-then-not-are_at_most
returns-then-not-are_at_most c = (
  λ h. absurd (false≢true h),
  λ covers. sym c.if-not-are_at_most.true ∙ c.are_at_most.ensures.1
      (subst (AllZip (λ p q. p ≤ q) c.points.result.now) (sym c.points-2.ensures.own)
      (subst (λ ps. AllZip (λ p q. p ≤ q) ps c.args.upper.now.book.points) (sym c.points.ensures.own) covers.points)),
)

pub returns : goal.returns
returns c = (
  λ h. record {
    cuts = λ x has. of_member (Contains c.args.upper.now.book.cuts) c.cuts.result.now (c.has_cuts.ensures.0 c.if-not-has_cuts.false) x
        (subst (λ xs. Contains xs x) (sym c.cuts.ensures.value) has);
    points =
        subst (λ ps. AllZip (λ p q. p ≤ q) ps c.args.upper.now.book.points) c.points.ensures.own
        (subst (AllZip (λ p q. p ≤ q) c.points.result.now) c.points-2.ensures.own (c.are_at_most.ensures.0 c.if-not-are_at_most.false));
    waits = λ a has. of_member (λ a. IsKnown c.args.upper.now (Advance a)) c.waits.result.now (c.has_waits.ensures.0 h) a
        (subst (λ xs. Contains xs a) (sym c.waits.ensures.value) has);
  },
  λ covers. c.has_waits.ensures.1 (all_members (λ a. IsKnown c.args.upper.now (Advance a)) c.waits.result.now
      (λ a h. covers.waits a (subst (λ xs. Contains xs a) c.waits.ensures.value h))),
)
