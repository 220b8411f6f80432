use Rattle.std.proofs.Common.{◌≡◌, sym, ◌∙◌, subst}
use Rattle.std.specs.Result.{IfOk}
use Rattle.page_base.proofs.Shown.{at_place, at_gap}
use Rattle.page_base.proofs.places.image_in.Goals as goal

pub returns-in-Ok : goal.returns-in-Ok
returns-in-Ok c =
    let shown = at_place c.args.images.now c.args.floor c.args.page c.in-Ok.place c.index-images-place.result c.requires c.in-Ok.ensures
    c.index-images-place.is in
    subst (λ bytes. IfOk c.copy.result (λ image. image ≡ bytes)) (c.page.ensures ∙ c.image.ensures ∙ sym shown.1) c.copy.ensures

pub returns-in-Err : goal.returns-in-Err
returns-in-Err c =
    let shown = at_gap c.args.images.now c.args.floor c.args.page c.in-Err.field-0 c.requires c.in-Err.ensures in
    subst (λ bytes. IfOk c.zeros.result (λ image. image ≡ bytes)) (sym shown.1) c.zeros.ensures
