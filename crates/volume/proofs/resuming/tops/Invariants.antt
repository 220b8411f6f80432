use Rattle.segment_core.specs.StoredPages.{IsStoredPage}
use Rattle.segment_core.proofs.Pages.{pages_left}
use Rattle.volume.proofs.Tops.{TopsTo, HasNumberAt}
use Rattle.volume.proofs.resuming.tops.Given as goal

-- the pages that are passed have their numbers
abbrev pub invariant-loop-next : goal.invariant-loop-next
invariant-loop-next l = TopsTo (IsStoredPage l.union) (HasNumberAt l.union l.point) l.next l.tops.items

abbrev pub decreases-loop-next : goal.decreases-loop-next
decreases-loop-next l = pages_left l.next
