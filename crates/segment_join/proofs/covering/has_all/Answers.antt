use Rattle.std.proofs.Common.{◌↔◌, List, IsTrue, subst}
use Rattle.std.specs.List.{All}
use Rattle.segment_join.specs.Covering.{HasAt}
use Rattle.segment_join.proofs.Keeping.{at_all_keys, by_stored}
use Rattle.segment_join.proofs.covering.has_all.Goals as goal
use Rattle.redo_core.specs.declared.keys.Key.{Key}

pub returns-then-prefers_lookup : goal.returns-then-prefers_lookup
returns-then-prefers_lookup c =
    let s = c.args.upper.now in let t = c.args.lower.now in let keys = c.in_ok-keys.keys.items in
    let all = at_all_keys s c.args.anchor t c.args.base keys c.in_ok-keys.ensures.rising c.in_ok-keys.ensures.keys in
    let tells : IsTrue c.has_keys.result ↔ All (HasAt s c.args.anchor t) keys =
    subst (λ (ks : List Key). IsTrue c.has_keys.result ↔ All (HasAt s c.args.anchor t) ks) c.deref.ensures.value c.has_keys.ensures in
    (λ h. all.0 (tells.0 h), λ each. tells.1 (all.1 each))

pub returns : goal.returns
returns c =
    let all = by_stored c.args.upper.now c.args.anchor c.args.lower.now c.args.base in
    (λ h. all.0 (c.stores_kept.ensures.0 h), λ each. c.stores_kept.ensures.1 (all.1 each))
