use Rattle.std.proofs.Common.{take}
use Rattle.std.specs.List.{All}
use Rattle.reference_model.proofs.Scanned.{LinksNot}
use Rattle.reference_model.proofs.links.+is_linked.Given as goal

abbrev pub decreases-is_linked : goal.decreases-is_linked
decreases-is_linked l = l.number

abbrev pub invariant-loop-fact : goal.invariant-loop-fact
invariant-loop-fact l = All (LinksNot l.facts l.view l.number) (take l.fact-index l.facts)
