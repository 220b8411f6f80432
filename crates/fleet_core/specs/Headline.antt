-- The headline: what each segment of a fleet answers after any script over a sound log, and what merging is.
use Rattle.std.specs.Prelude.{◌≡◌, ℕ, ◌↔◌, Bool, IsTrue, List}
use Rattle.std.specs.List.{AllZip, AllByRecursion}
use Rattle.redo_core.specs.Sets.{IsPart}
use Rattle.redo_core.specs.Meaning.{Meaning, IsMeaning}
use Rattle.redo_core.specs.AtMost.{IsAtMost}
use Rattle.redo_core.specs.Sound.{IsSound}
use Rattle.redo_core.specs.declared.facts.Fact.{Fact}
use Rattle.log_theorems.specs.OrderOfMeanings.{LeastUpperBound}
use Rattle.segment_theorems.specs.AnswersAs.{AnswersAs}
use Rattle.script_steps.specs.declared.steps.Step.{Step}
use Rattle.fleet_core.specs.declared.replies.Reply.{Reply}
use Rattle.fleet_core.specs.declared.replies.Reply.TheVariants.{Answer}
use Rattle.fleet_core.specs.Machine.{empty_machine}
use Rattle.fleet_core.specs.Replies.{RepliesCovers}
use Rattle.fleet_core.specs.Runs.{TakesFrom, AreReplies, after_all, FollowsMachine}
use Rattle.fleet_core.specs.FleetState.{FleetState, empty_fleet}

-- After any script over a sound log the replies are the machine's, and each segment answers as the set of facts that reached its node;
-- and the meaning of a union is the least that is at or above both.
pub record Headline : Type 0 where
  pub answers : (roster : ℕ) (log : List Fact) (nodes : ℕ) (steps : List (Step Fact)) (replies : List Reply) (new : FleetState)
      → IsSound roster log → AllByRecursion (TakesFrom log) steps → FollowsMachine (empty_fleet roster nodes) steps replies new
      → AreReplies roster (empty_machine nodes) steps replies
      × AllZip (AnswersAs roster log) (after_all (empty_machine nodes) steps replies).nodes new.segments
  pub merging : LeastUpperBound

-- Whether one node covers another is replied by the order of parts of the log.
abbrev pub NodesCoverByParts : Type 0
NodesCoverByParts =
    (roster : ℕ) (log facts others : List Fact) (y x : Meaning) (reply : Reply)
    → IsSound roster log → IsPart facts log → IsPart others log → IsMeaning roster facts y → IsMeaning roster others x
    → RepliesCovers roster facts others reply
    → (answer : Bool) × (reply ≡ Answer answer) × (IsTrue answer ↔ IsAtMost roster log x y)
