use Rattle.std.proofs.Common.{◌≡◌, refl, sym, ◌∙◌}
use Rattle.segment_join.proofs.Keeping.{back_by_keys}
use Rattle.segment_join.proofs.covering.has_all_back.Goals as goal

pub returns-then-are_same_keys : goal.returns-then-are_same_keys
returns-then-are_same_keys c =
    let same : c.in_ok-own.own.items ≡ c.in_ok-others.others.items =
    sym c.deref.ensures.value ∙ c.are_same_keys.ensures c.if-are_same_keys.true ∙ c.deref-2.ensures.value in (
      λ _. back_by_keys c.args.upper.now c.args.anchor c.args.lower.now c.args.base c.in_ok-own.own.items c.in_ok-others.others.items
          c.in_ok-others.ensures.rising c.in_ok-own.ensures.keys c.in_ok-others.ensures.keys same c.requires,
      λ _. refl,
    )
