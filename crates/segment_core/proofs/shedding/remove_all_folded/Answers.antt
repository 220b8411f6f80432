use Rattle.std.proofs.Common.{List, subst, arith}
use Rattle.segment_core.specs.Forgetting.{RemovesInImages}
use Rattle.segment_theorems.specs.State.{StoredImage}
use Rattle.segment_core.proofs.Gone.{of_images}
use Rattle.segment_core.proofs.shedding.remove_all_folded.Goals as goal

pub returns-then-floor-eq0-clause-removes : goal.returns-then-floor-eq0-clause-removes
returns-then-floor-eq0-clause-removes c =
    let store = c.args.store.now in
    of_images c.args.book.now store c.args.point c.args.hot.now c.remove_in_images.new.hot c.pages.ensures.form
    (omega (arith, c.floor.ensures, c.if-floor-eq0.true)) c.requires
    (subst (λ (is : List StoredImage). RemovesInImages c.args.book.now c.args.point is c.args.hot.now c.remove_in_images.new.hot) c.pages.ensures.value
    c.remove_in_images.ensures.removes)
