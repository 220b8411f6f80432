use Rattle.std.proofs.lemmas.Grind.{common_steps}
use Rattle.std.proofs.Common.{◌≡◌, ℕ, ◌≤◌, ◌<◌, rules, arith}
use Rattle.segment_theorems.specs.State.{State}
use Rattle.segment_core.proofs.BlockChain.{only_low}
use Rattle.segment_core.proofs.segment.Segment.linked_of.Goals as goal

pub returns-then-number-sure_point : goal.returns-then-number-sure_point
returns-then-number-sure_point c = search (rules, only_low)

-- an LSN above the sure point is above the base point
above : (s t : State) (sure number : ℕ) → s ≡ t → t.base ≤ sure → sure < number → s.base < number
above s t sure number same base high = search rules

pub returns-in_err-redo : goal.returns-in_err-redo
returns-in_err-redo c = search rules

pub returns-then-page : goal.returns-then-page
returns-then-page c = search rules

pub returns-else-page : goal.returns-else-page
returns-else-page c = grind (arith, common_steps)
