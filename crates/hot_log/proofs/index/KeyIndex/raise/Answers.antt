use Rattle.std.proofs.Common.{subst}
use Rattle.std.specs.Map.{keys_of}
use Rattle.hot_log.specs.Indexing.{IndexData, RaisesStart}
use Rattle.hot_log.proofs.Start.{cut_keys, raises_cut, raises_none}
use Rattle.hot_log.proofs.index.KeyIndex.raise.Goals as goal

pub returns-then-group-self : goal.returns-then-group-self
returns-then-group-self c =
    let i : IndexData = record { start = c.self.inside.start; keys = keys_of c.self.inside.keys } in
    subst (λ (x : IndexData). RaisesStart x c.args.group x) c.self.view_is (raises_none i c.args.group c.if-group-self.true c.self.invariant)

pub invariant_of-self : goal.invariant_of-self
invariant_of-self c = λ p h. ((cut_keys c.self.inside.keys c.remove_range.new.self c.args.group c.least.result c.least.ensures c.remove_range.ensures.loses p).0 h).1

pub returns : goal.returns
returns c =
    let i : IndexData = record { start = c.self.inside.start; keys = keys_of c.self.inside.keys } in
    let less : IndexData = record { start = c.args.group; keys = keys_of c.remove_range.new.self } in
    subst (λ (x : IndexData). RaisesStart x c.args.group less) c.self.view_is
    (raises_cut i (keys_of c.remove_range.new.self) c.args.group c.if-group-self.false (cut_keys c.self.inside.keys c.remove_range.new.self c.args.group c.least.result c.least.ensures c.remove_range.ensures.loses))
