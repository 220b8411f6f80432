use Rattle.std.proofs.Common.{ℕ, take}
use Rattle.hot_log.specs.Held.{IsHeld}
use Rattle.hot_log.specs.Removing.{IsFolded}
use Rattle.segment_theorems.specs.State.{version_of}
use Rattle.segment_core.proofs.Gone.{GoneBy}
use Rattle.segment_core.proofs.pending.remove_in_pages.Given as goal

-- what the images of the pages so far have is gone
abbrev pub invariant-loop-page : goal.invariant-loop-page
invariant-loop-page l = record {
  form : IsHeld l.hot;
  gone : GoneBy (λ (page : ℕ) r. IsFolded l.book page (version_of l.store page) l.point r) (take l.page-index l.pages) l.fn.hot l.hot;
}
