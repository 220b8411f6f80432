use Rattle.std.proofs.Common.{sym}
use Rattle.page_base.proofs.Shown.{at_place, at_gap}
use Rattle.page_base.proofs.places.stored_in.Goals as goal

pub returns-in-Ok : goal.returns-in-Ok
returns-in-Ok c = λ floor.
    let at = c.in-Ok.ensures in
    let x = c.index-images-place.result in
    let shown = at_place c.args.images.now floor c.args.page c.in-Ok.place x c.requires at c.index-images-place.is in
    ((c.in-Ok.place, at.0, sym c.index-images-place.is), at.1 x c.index-images-place.is, shown.0, shown.1)

pub returns-in-Err : goal.returns-in-Err
returns-in-Err c = λ floor. at_gap c.args.images.now floor c.args.page c.in-Err.field-0 c.requires c.in-Err.ensures
