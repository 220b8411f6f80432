use Rattle.std.proofs.Common.{ℕ, subst, rules}
use Rattle.hot_log.specs.Removing.{IsFolded, Removes}
use Rattle.segment_theorems.specs.State.{StoredImage}
use Rattle.segment_core.proofs.Gone.{gone_by_more, gone_by_all}
use Rattle.segment_core.proofs.shedding.remove_in_images.Goals as goal

pub loop-image-init : goal.loop-image-init
loop-image-init c = search rules

pub loop-image-preserved : goal.loop-image-preserved
loop-image-preserved c =
    let book = c.args.book.now in let old = c.loop-image.hot in let new = c.remove_folded.new.self in let image = c.image-item.result in (
      c.remove_folded.ensures.form,
      gone_by_more (λ (i : StoredImage) r. IsFolded book i.page i.version c.args.point r) c.args.images.now c.loop-image.image-index image
          c.args.hot.now old new c.loop-image-test.true c.loop-image.invariant.1
          (subst (λ (i : StoredImage). Removes (IsFolded book i.page i.version c.args.point) old new) c.image-item.is
          (subst (λ (page : ℕ). Removes (IsFolded book page image.version c.args.point) old new) c.page.ensures
          (subst (λ (version : ℕ). Removes (IsFolded book c.page.result version c.args.point) old new) c.version.ensures
          c.remove_folded.ensures.removes))),
    )

pub returns-clause-removes : goal.returns-clause-removes
returns-clause-removes c =
    gone_by_all (λ (i : StoredImage) r. IsFolded c.args.book.now i.page i.version c.args.point r) c.args.images.now c.loop-image.image-index c.args.hot.now
    c.loop-image.hot c.loop-image-test.false c.loop-image.invariant.1
