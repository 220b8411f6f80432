use Rattle.std.proofs.Common.{take}
use Rattle.std.specs.List.{All}
use Rattle.reference_model.proofs.Scanned.{IsReached}
use Rattle.reference_model.proofs.PageScans.{FoundInPage, FoundUpTo}
use Rattle.reference_model.proofs.pages.next_record.Given as goal

abbrev pub invariant-loop-fact : goal.invariant-loop-fact
invariant-loop-fact l = record {
  best : FoundInPage (λ r. r.now) l.facts l.view l.page l.from l.point l.next;
  least : All (IsReached l.facts l.view l.page l.from l.point (FoundUpTo (λ r. r.now) l.next)) (take l.fact-index l.facts);
}
