use Rattle.page_base.specs.Stored.{IsStored}
use Rattle.segment_theorems.specs.HasMeaning.{HasAnchor}
use Rattle.segment_core.proofs.Pages.{pages_left}
use Rattle.segment_core.proofs.FoldPages.{FoldsTo}
use Rattle.segment_core.proofs.segment.Segment.folded_store.Given as goal

-- the pages that are passed are folded
abbrev pub invariant-loop-next : goal.invariant-loop-next
invariant-loop-next l = record {
  form : IsStored l.store;
  own : HasAnchor l.self l.anchor;
  folds : FoldsTo l.self l.anchor l.next l.store;
}

abbrev pub decreases-loop-next : goal.decreases-loop-next
decreases-loop-next l = pages_left l.next
