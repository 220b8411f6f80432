-- What a node must not lose, and its critical sections.
use Rattle.std.specs.Prelude.{◌≡◌, ℕ, List, ◌++◌}
use Rattle.redo_core.specs.Sets.{IsPart}
use Rattle.redo_core.specs.declared.facts.Fact.{Fact}
use Rattle.atomic_table.specs.Seated.{TableId}
use Rattle.node_lock.specs.Trail.{Entry}
use Rattle.node_lock.specs.Section.{SectionData}
use Rattle.segment_theorems.specs.State.{State}
use Rattle.segment_theorems.specs.Means.{Means}
use Rattle.node_cell.specs.Kept.{KeptData, MeansTrail}

-- each part of the log that the old segment means is within a part that the new one means
abbrev pub RetainsParts : ℕ → List Fact → State → State → Type 0
RetainsParts roster log old new = (facts : List Fact) → Means roster log facts old → (more : List Fact) × IsPart facts more × Means roster log more new

-- The section is one of this lock. The node gave back a state that retains each part of the log and has these entries more in its trail,
-- and the segment made this step.
pub record RunsSection (roster : ℕ) (log : List Fact) (lock : TableId) (entries : List Entry) (step : State → State → Type 0) (section : SectionData KeptData) : Type 0 where
  pub own : section.lock ≡ lock
  pub kept : MeansTrail roster log section.before.segment section.before.trail
  pub retains : RetainsParts roster log section.before.segment section.after.segment
  pub trail : section.after.trail ≡ section.before.trail ++ entries
  pub does : step section.before.segment section.after.segment

-- each segment retains its own parts, and what the one after the next retains
pub retains_own : (roster : ℕ) (log : List Fact) (s : State) → RetainsParts roster log s s
retains_own roster log s facts means = (facts, (λ f in_facts. in_facts), means)

pub retains_on : (roster : ℕ) (log : List Fact) (a b c : State) → RetainsParts roster log a b → RetainsParts roster log b c → RetainsParts roster log a c
retains_on roster log a b c first next facts means =
    let one = first facts means in
    let two = next one.0 one.2 in (two.0, (λ f in_facts. two.1 f (one.1 f in_facts)), two.2)
