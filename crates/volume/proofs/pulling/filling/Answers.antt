use Rattle.std.proofs.Common.{◌≡◌, ◌<◌, ◌⊎◌, inl, inr}
use Rattle.messages.specs.Summaries.{SummaryData}
use Rattle.segment_theorems.specs.State.{State}
use Rattle.segment_core.specs.declared.answers.ReadFault.{ReadFault}
use Rattle.segment_core.specs.declared.answers.ReadFault.TheVariants.{Memory}
use Rattle.gossip_core.specs.Replying.{IsLeastBreak}
use Rattle.volume.specs.Opening.{BreaksChain}
use Rattle.volume.proofs.pulling.filling.Goals as goal

-- what is refused, and not for lack of memory, has a broken chain
chain_of : (union : State) (summary : SummaryData) (why : ReadFault) → (why ≡ Memory → ⊥)
    → (why ≡ Memory) ⊎ ((summary.anchor < union.base) × IsLeastBreak union why) → BreaksChain union summary
chain_of union summary why not_memory (inl lack) = absurd (not_memory lack)
chain_of union summary why not_memory (inr least) = (least.0, (least.1.0, least.1.1, least.1.2))

pub returns-in_default-clause-breaks : goal.returns-in_default-clause-breaks
returns-in_default-clause-breaks c =
    chain_of c.args.union.now c.args.summary.now c.in-Err.why c.in_default.not-Memory c.in-Err.ensures.refused
