use Rattle.std.proofs.Common.{◌≡◌, ◌↔◌, subst, arith, IsTrue, rules}
use Rattle.std.proofs.lemmas.Result.{IfOk-weaker}
use Rattle.segment_join.specs.Covering.{HasAllKept}
use Rattle.segment_core.proofs.OneView.{one_anchor}
use Rattle.segment_join.proofs.covering.covers_state_back.Goals as goal

pub returns-then-not-covers_book : goal.returns-then-not-covers_book
returns-then-not-covers_book c = search rules

pub returns-then-anchor-base : goal.returns-then-anchor-base
returns-then-anchor-base c = search rules

pub returns : goal.returns
returns c =
    let upper = c.args.upper.now in let lower = c.args.lower.now in
    IfOk-weaker c.has_all_back.result (λ answer. IsTrue answer ↔ HasAllKept upper c.anchor-anchor.result lower c.anchor-base.result) _
    (λ answer tells anchor base top low.
    let a : c.anchor-anchor.result ≡ anchor = one_anchor upper c.anchor-anchor.result anchor c.anchor-anchor.ensures.own top in
    let b : c.anchor-base.result ≡ base = one_anchor lower c.anchor-base.result base c.anchor-base.ensures.own low in
    let told : IsTrue answer ↔ HasAllKept upper anchor lower base =
    subst (λ n. IsTrue answer ↔ HasAllKept upper n lower base) a (subst (λ n. IsTrue answer ↔ HasAllKept upper c.anchor-anchor.result lower n) b tells) in (
      λ h. record {
        book = c.covers_book.ensures.0 c.if-not-covers_book.false;
        anchors = omega (arith, a, b, c.if-anchor-base.false);
        kept = told.0 h;
      },
      λ covers. told.1 covers.kept,
    ))
    c.has_all_back.ensures

pub has_all_back-requires : goal.has_all_back-requires
has_all_back-requires c = (c.requires.covered c.anchor-base.result c.anchor-anchor.result c.anchor-base.ensures.own c.anchor-anchor.ensures.own).kept
