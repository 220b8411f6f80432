use Rattle.std.proofs.Common.{◌≡◌, ℕ, List, sym, subst}
use Rattle.segment_theorems.specs.Shows.{Shows}
use Rattle.segment_core.proofs.OneView.{one_anchor}
use Rattle.segment_core.proofs.segment.Segment.page_at_anchor.Goals as goal

pub returns : goal.returns
returns c anchor has =
    let s = c.args.self.now in
    let same : c.anchor-anchor.result ≡ anchor = one_anchor s c.anchor-anchor.result anchor c.anchor-anchor.ensures.own has in
    subst (λ (n : ℕ). Shows s c.args.page n c.in_ok-new.field-0) same
    (subst (λ (image : List ℕ). Shows s c.args.page c.anchor-anchor.result image) (sym c.in_ok-new.ensures.ok) c.in_ok-made.ensures)
