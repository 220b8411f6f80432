use Rattle.std.proofs.Common.{subst}
use Rattle.hot_log.specs.Found.{IsLeast, IsPageAbove}
use Rattle.segment_core.specs.StoredPages.{IsImageOf}
use Rattle.segment_core.proofs.NextPage.{least_stored}
use Rattle.segment_core.proofs.exported_pages.stored_page_after.Goals as goal

pub returns : goal.returns
returns c =
    least_stored c.args.segment.now c.args.after c.image_after.result c.page_after.result c.lesser.result
    (subst (λ images. IsLeast (λ g. IsImageOf images g × IsPageAbove c.args.after g) c.image_after.result) c.pages.ensures.value c.image_after.ensures)
    c.page_after.ensures c.lesser.ensures
