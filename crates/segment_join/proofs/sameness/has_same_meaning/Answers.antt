use Rattle.std.proofs.Common.{rules}
use Rattle.std.proofs.lemmas.Result.{IfOk-weaker}
use Rattle.segment_join.proofs.Agreeing.{tells_same, not_covered}
use Rattle.segment_join.proofs.sameness.has_same_meaning.Goals as goal

pub returns-then-not-branch : goal.returns-then-not-branch
returns-then-not-branch c =
    not_covered c.args.one.now c.args.other.now c.in_ok-covers.field-0 c.opens_form.ensures.form c.in_ok-covers.ensures.meanings c.if-not-branch.true

pub returns-then-not-branch-2 : goal.returns-then-not-branch-2
returns-then-not-branch-2 c = search rules

pub returns : goal.returns
returns c =
    IfOk-weaker c.has_same_pages.result _ _ (λ same tells.
    tells_same c.args.one.now c.args.other.now c.anchor.result c.anchor-2.result same c.opens_form.ensures.form c.opens_form-2.ensures.form
    c.anchor.ensures.own c.anchor-2.ensures.own
    (λ y x hy hx. (
      (c.in_ok-covers.ensures.meanings y x hy hx).0 c.if-not-branch.false,
      (c.in_ok-covers_back.ensures x y hx hy).0 c.if-not-branch-2.false,
    ))
    tells)
    c.has_same_pages.ensures

pub covers_back-requires : goal.covers_back-requires
covers_back-requires c = record {
  covered = λ base anchor low top. (c.in_ok-covers.ensures.own base anchor low top).0 c.if-not-branch.false;
}
