use Rattle.std.proofs.Common.{◌<◌, length, Some, sym, subst, arith}
use Rattle.hot_log.specs.Found.{IsLeast, IsPageAbove}
use Rattle.segment_core.specs.StoredPages.{IsImageOf}
use Rattle.segment_core.proofs.NextPage.{least_image, no_image}
use Rattle.segment_core.proofs.exported_pages.image_after.Goals as goal

pub returns-then-place-images : goal.returns-then-place-images
returns-then-place-images c =
    no_image c.args.images.now c.args.after c.place_after-place.result (omega (arith, c.if-place-images.true)) c.place_after-place.ensures.before

pub returns : goal.returns
returns c =
    let images = c.args.images.now in let after = c.args.after in let place = c.place_after-place.result in let x = c.index-images-place.result in
    let lt : place < length images = omega (arith, c.place_after-place.ensures.bound, c.if-place-images.false) in
    let above : IsPageAbove after x.page = subst (λ i. IsPageAbove after i.page) (sym c.index-images-place.is)
    (c.place_after-place.ensures.from place x (omega arith) lt) in
    subst (λ g. IsLeast (λ n. IsImageOf images n × IsPageAbove after n) (Some g)) (sym c.page.ensures)
    (least_image images after place x c.requires lt c.index-images-place.is above c.place_after-place.ensures.before)
