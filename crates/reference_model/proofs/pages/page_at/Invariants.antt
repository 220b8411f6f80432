use Rattle.std.proofs.Common.{◌+◌, ◌-◌}
use Rattle.reference_model.specs.PageRecords.{HasNumbersOnce}
use Rattle.reference_model.proofs.PageSteps.{IsPageBelow}
use Rattle.reference_model.proofs.pages.page_at.Given as goal

abbrev pub invariant-loop-redo : goal.invariant-loop-redo
invariant-loop-redo l = HasNumbersOnce l.facts l.view l.page l.point → IsPageBelow l.facts l.view l.page l.point l.from l.image

abbrev pub decreases-loop-redo : goal.decreases-loop-redo
decreases-loop-redo l = l.point + 1 - l.from
