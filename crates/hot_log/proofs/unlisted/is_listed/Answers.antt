use Rattle.std.proofs.Common.{◌≡◌, ◌↔◌, IsTrue, get_or, refl, sym, ◌∙◌, subst, false, true}
use Rattle.std.specs.List.{Contains}
use Rattle.redo_core.specs.Keys.{key_in}
use Rattle.redo_core.specs.declared.keys.Key.{Key}
use Rattle.std.proofs.lemmas.List.{get_or_default}
use Rattle.std.proofs.lemmas.Bool.{false≢true}
use Rattle.hot_log.proofs.KeySearch.{key_found, not_among, are_one}
use Rattle.hot_log.proofs.unlisted.is_listed.Goals as goal

pub returns-then-eq : goal.returns-then-eq
returns-then-eq c =
    let keys = c.args.keys.now in let i = c.args.place in let lt = c.if-place-keys.true in
    let found : Key = get_or keys i (key_in 0 0) in
    let is : found ≡ c.args.key = are_one found c.args.key (sym c.eq.ensures ∙ c.if-eq.true) in
    (λ h. (i, lt, get_or_default keys i c.args.key (key_in 0 0) lt ∙ is), λ h. refl)

pub returns : goal.returns
returns c =
    subst (λ b. IsTrue b ↔ Contains c.args.keys.now c.args.key) (sym c.is_ok.ensures.value)
    (key_found c.args.keys.now c.args.key c.binary_search.result c.requires c.binary_search.ensures.bound c.binary_search.ensures.position)

pub returns-then-are_above : goal.returns-then-are_above
returns-then-are_above c =
    let none = not_among c.args.keys.now c.args.place c.args.key (c.are_below.ensures c.if-are_below.true) (c.are_above.ensures c.if-are_above.true) in
    (λ (h : false ≡ true). absurd (false≢true h), λ h. absurd (none h))
