use Rattle.std.proofs.Common.{◌≡◌, sym, ◌∙◌, subst, List, rules}
use Rattle.std.specs.List.Sorted.{IsStrictlySortedBy}
use Rattle.std.specs.Map.{keys_of}
use Rattle.hot_log.proofs.Maps.{zipped}
use Rattle.hot_log.proofs.Keyed.{Entry}
use Rattle.hot_log.proofs.key_records.KeyRecords.copy.Goals as goal
use Rattle.redo_core.specs.Keys.{key_cmp}

same : (c : goal.In_ok-copy) → c.in_ok-copy.field-0 ≡ c.self.inside.map
same c = search (rules, zipped)

pub invariant_of-result : goal.invariant_of-result
invariant_of-result c = subst (λ (l : List Entry). IsStrictlySortedBy key_cmp (keys_of l)) (sym (same c)) c.self.invariant

pub returns : goal.returns
returns c = same c ∙ c.self.view_is
