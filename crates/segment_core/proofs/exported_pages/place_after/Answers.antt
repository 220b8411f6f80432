use Rattle.std.proofs.Common.{sym, subst}
use Rattle.segment_core.specs.StoredPages.{BeginsAbove}
use Rattle.segment_core.proofs.NextPage.{begins_first}
use Rattle.segment_core.proofs.exported_pages.place_after.Goals as goal

pub returns-in-None : goal.returns-in-None
returns-in-None c = subst (λ after. BeginsAbove after c.args.images.now 0) (sym c.in-None.is) (begins_first c.args.images.now)
