use Rattle.std.proofs.Common.{◌<◌, length, ◌∙◌, arith}
use Rattle.page_base.proofs.Putting.{gap_before}
use Rattle.page_base.proofs.places.place_of.Goals as goal

pub returns-else-page : goal.returns-else-page
returns-else-page c =
    let images = c.args.images.now in let place = c.split_at-place.result in
    let inside : place < length images = omega (arith, c.split_at-place.ensures.bound, c.if-place-images.false) in
    gap_before c.args.page images place c.index-images-place.result c.requires c.split_at-place.ensures inside c.index-images-place.is
    (λ e. c.if-page.false (c.page.ensures ∙ e))
