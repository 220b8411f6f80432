use Rattle.std.proofs.Common.{take}
use Rattle.std.specs.List.{All}
use Rattle.reference_model.specs.Helpers.{IsLinkedWithin}
use Rattle.reference_model.proofs.Scanned.{LinksUpTo}
use Rattle.reference_model.proofs.links.greatest_linked.Given as goal

abbrev pub invariant-loop-fact : goal.invariant-loop-fact
invariant-loop-fact l = record {
  there : IsLinkedWithin l.facts l.view l.limit l.greatest;
  top : All (LinksUpTo l.facts l.view l.limit l.greatest) (take l.fact-index l.facts);
}
