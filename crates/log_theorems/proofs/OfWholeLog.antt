-- What a part of a sound log links, and its pages, are the log's own.
use Rattle.std.proofs.Common.{◌≡◌, ◌↔◌, ℕ, ◌≤◌, List, arith}
use Rattle.redo_core.specs.Data.{RecordData}
use Rattle.redo_core.specs.Sets.{IsPart, cuts}
use Rattle.redo_core.specs.Order.{BeforeByNumber}
use Rattle.redo_core.specs.CompleteEpoch.{HasCutsTo}
use Rattle.redo_core.specs.Linked.{IsLinked, IsLinkedRecord}
use Rattle.redo_core.specs.Linked.Linked.{start, next}
use Rattle.redo_core.specs.Position.{Position, IsPosition}
use Rattle.redo_core.specs.PageAt.{IsPageAt}
use Rattle.redo_core.specs.LogFront.{IsLogFront}
use Rattle.redo_core.specs.declared.facts.Fact.{Fact}
use Rattle.redo_core.proofs.FactParts.{part_records, part_cuts}
use Rattle.log_theorems.proofs.Log.{IsLog}
use Rattle.redo_core.proofs.Numbers.{at_greatest}
use Rattle.redo_core.proofs.CompleteEpochs.{has_cuts}
use Rattle.log_theorems.proofs.Views.{alive_up, prefix_law}
use Rattle.log_theorems.proofs.Fronts.{cuts_to_part}
use Rattle.log_theorems.proofs.Meanings.{lists_as}

-- what the part links is linked in the log
linked_up : {roster : ℕ} (log part : List Fact) → IsLog roster log → IsPart part log → (k : ℕ) → HasCutsTo (cuts part) k → (n : ℕ) → IsLinked part k n
    → IsLinked log k n
linked_up log part l p k has n start = start
linked_up log part l p k has n (next r hr a lt linked) =
    next r (part_records part log p r hr) (alive_up log part l p k r.epoch r.number has a) lt (linked_up log part l p k has r.back linked)

complete_is : {roster : ℕ} (F : List Fact) (p : Position) → IsPosition roster F p → IsLinked F p.epoch p.complete
complete_is F p at = at_greatest (IsLinked F p.epoch) start p.complete at.complete

pub front_law : {roster : ℕ} (log part : List Fact) (p : Position) → IsLog roster log → IsPart part log → IsPosition roster part p
    → IsLogFront log p.epoch p.complete
front_law log part p l inside at =
    let has = has_cuts (cuts part) p.epoch at.epoch in
    (cuts_to_part (cuts part) (cuts log) (part_cuts part log inside) p.epoch has, linked_up log part l inside p.epoch has p.complete (complete_is part p at))

-- a linked record of the part up to its complete point is one of the log, and back
same_record : {roster : ℕ} (log part : List Fact) (p : Position) → IsLog roster log → IsPart part log → IsPosition roster part p
    → (q : ℕ) → q ≤ p.complete → (r : RecordData) → r.number ≤ q → IsLinkedRecord part p.epoch r ↔ IsLinkedRecord log p.epoch r
same_record log part p l inside at q le r m =
    let has = has_cuts (cuts part) p.epoch at.epoch in (
      λ h. record {
        among = part_records part log inside r h.among;
        alive = alive_up log part l inside p.epoch r.epoch r.number has h.alive;
        linked = linked_up log part l inside p.epoch has r.number h.linked;
      },
      λ h. (prefix_law log part p p.complete r l inside at (complete_is part p at) (omega arith)).1 (h.among, h.alive),
    )

pub page_law : {roster : ℕ} (log part : List Fact) (p : Position) (page q : ℕ) (image : List ℕ) → IsLog roster log → IsPart part log
    → IsPosition roster part p → q ≤ p.complete → IsPageAt part p.epoch page q image → IsPageAt log p.epoch page q image
page_law log part p page q image l inside at le shown = record {
  written = shown.written;
  lists = lists_as BeforeByNumber
      (λ r. IsLinkedRecord part p.epoch r × (r.page ≡ page) × (r.number ≤ q))
      (λ r. IsLinkedRecord log p.epoch r × (r.page ≡ page) × (r.number ≤ q))
      (λ r. (
        λ h. ((same_record log part p l inside at q le r h.2).0 h.0, h.1, h.2),
        λ h. ((same_record log part p l inside at q le r h.2).1 h.0, h.1, h.2),
      ))
      shown.written shown.lists;
  result = shown.result;
}
