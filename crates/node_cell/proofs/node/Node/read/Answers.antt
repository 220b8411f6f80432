use Rattle.std.proofs.Common.{rules, ap}
use Rattle.node_cell.specs.Kept.{KeptData}
use Rattle.node_cell.proofs.Keeping.{tells_of}
use Rattle.node_cell.proofs.Retaining.{retains_same, from_found}
use Rattle.node_cell.proofs.node.Node.read.Goals as goal

pub give-requires-clause-retained : goal.give-requires-clause-retained
give-requires-clause-retained g c =
    let roster = g.L.LogName.roster in
    let log = g.L.LogName.log in
    from_found roster log c.take-turn.result.found.value c.take-turn.result.state c.read-answer.new.self c.take-turn.ensures.found
    (retains_same roster log c.take-turn.result.state.segment c.read-answer.new.self.segment
    (ap (λ (k : KeptData). k.segment) c.read-answer.ensures.same))

pub returns-clause-answer : goal.returns-clause-answer
returns-clause-answer g c = search (rules, tells_of)
