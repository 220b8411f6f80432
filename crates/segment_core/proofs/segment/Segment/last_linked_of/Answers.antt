use Rattle.std.proofs.Common.{Some, subst, rules}
use Rattle.hot_log.specs.Found.{IsGreatestRecord}
use Rattle.segment_theorems.specs.State.{State}
use Rattle.segment_core.specs.BlockChain.{IsLinkedOf}
use Rattle.segment_core.proofs.BlockChain.{last_sure, last_linked, last_unlinked}
use Rattle.segment_core.proofs.segment.Segment.last_linked_of.Goals as goal

pub returns-in-Some : goal.returns-in-Some
returns-in-Some c =
    let found = Some c.in-Some.redo.now in
    subst (λ (s : State). IsGreatestRecord (IsLinkedOf s c.args.page c.args.point) found) c.self.view_is
    (last_linked c.self.inside.book c.self.inside.hot c.self.inside.base c.self.inside.store c.args.page c.args.point c.in-Some.redo.now c.in-Some.ensures)

pub returns-in-None : goal.returns-in-None
returns-in-None c = search (rules, last_unlinked)

pub returns-then-point-sure_point : goal.returns-then-point-sure_point
returns-then-point-sure_point c = search (rules, last_sure)
