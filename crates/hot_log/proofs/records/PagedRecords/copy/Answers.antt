use Rattle.std.proofs.Common.{◌≡◌, ◌∙◌, ap, List, rules}
use Rattle.hot_log.specs.Paged.{records_in, by_key}
use Rattle.hot_log.proofs.Maps.{zipped}
use Rattle.hot_log.proofs.Paged.{Entry}
use Rattle.hot_log.proofs.records.PagedRecords.copy.Goals as goal

same : (c : goal.In_ok-copy) → c.in_ok-copy.field-0 ≡ c.self.inside.map
same c = search (rules, zipped)

pub invariant_of-result : goal.invariant_of-result
invariant_of-result c = search (rules, same)

pub returns : goal.returns
returns c = ap (λ (l : List Entry). by_key (records_in l)) (same c) ∙ c.self.view_is
