use Rattle.std.proofs.Common.{◌≡◌, ℕ, ◌⊎◌, arith}
use Rattle.redo_core.specs.Order.{PairBefore}
use Rattle.hot_log.proofs.view.BookView.has_none_above.Goals as goal

-- where the greatest key is not above another one, no key is
none_over_greatest : (at number epoch greatest e n : ℕ) → (PairBefore at number epoch greatest → ⊥) → ((e ≡ epoch) × (n ≡ greatest)) ⊎ PairBefore e n epoch greatest
    → PairBefore at number e n → ⊥
none_over_greatest at number epoch greatest e n not up_to over = grind (arith, not, up_to, over)

pub returns-in-Some : goal.returns-in-Some
returns-in-Some c = λ up r h lt.
    let key = c.in-Some.key in
    none_over_greatest c.start_above.result.epoch c.start_above.result.number key.epoch key.number r.epoch r.number (c.is_up_to.ensures.0 up) (c.in-Some.ensures.greatest.1 r h.0)
    (c.start_above.ensures.starts.0 r.epoch r.number h.1 lt (c.requires r h lt))

pub returns-in-None : goal.returns-in-None
returns-in-None c = λ up r h lt. c.in-None.ensures.greatest r h.0
