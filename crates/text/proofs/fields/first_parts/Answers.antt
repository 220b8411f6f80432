use Rattle.std.proofs.Common.{◌≡◌, map, OnOk, rules, tests, ap, ◌∙◌}
use Rattle.std.specs.Slice.Iter as slice
use Rattle.std.proofs.lemmas.Iterator.{YieldsList-from_take}
use Rattle.std.proofs.lemmas.Iterator.Adapters.{fact_from_extend}
use Rattle.std.proofs.lemmas.Iterator.Consumers.{YieldsList-at}
use Rattle.std.proofs.lemmas.Iterator.Splits.{YieldsList-from_slice_split}
use Rattle.text.specs.Parts.{first_parts, most_parts}
use Rattle.text.proofs.fields.first_parts.Goals as goal

pub returns : goal.returns
unfolding first_parts
returns c =
    let source = c.take.ensures.source in
    let road = YieldsList-from_slice_split _ _ c.args.text.now (ap slice.split_rest source ∙ c.split.ensures.rest)
    (ap slice.split_done source ∙ c.split.ensures.done) (ap slice.split_callee source ∙ c.split.ensures.closure) in
    let said : OnOk c.extend.result (map (λ x. x.now) c.extend.new.self.items ≡ first_parts c.args.separator c.args.text.now) = fact_from_extend
    (λ x. x.now) c.extend.result c.extend.ensures.ran
    (λ it b. YieldsList-at b (YieldsList-from_take most_parts (road (λ x r q k. search (rules, tests))) c.take.ensures.count))
    (λ xs e h. rw (h.0, c.new-list.ensures.items) e) in
    rw c.in_ok-extend.was at said
