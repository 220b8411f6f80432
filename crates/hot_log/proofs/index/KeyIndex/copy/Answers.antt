use Rattle.std.proofs.Common.{◌≡◌, ◌∙◌, List, ap, rules}
use Rattle.std.specs.Map.{keys_of}
use Rattle.hot_log.specs.Indexing.{IndexData}
use Rattle.hot_log.proofs.Maps.{zipped}
use Rattle.hot_log.proofs.Places.{Place}
use Rattle.hot_log.proofs.index.KeyIndex.copy.Goals as goal

same : (c : goal.In_ok-copy) → c.in_ok-copy.field-0 ≡ c.self.inside.keys
same c = search (rules, zipped)

pub returns : goal.returns
returns c =
    let view : List (Place × Unit {0}) → IndexData = λ k. record { start = c.self.inside.start; keys = keys_of k } in
    ap view (same c) ∙ c.self.view_is

pub invariant_of-result : goal.invariant_of-result
invariant_of-result c = λ p. rw (same c) (c.self.invariant p)
