-- The reply for each result of a call below.
use Rattle.std.specs.Prelude.{ℕ, List, Option, Some, None, Result, Ok, Err}
use Rattle.redo_core.specs.declared.facts.Fact.{Fact}
use Rattle.redo_core.specs.declared.refusal.Refused.{Refused}
use Rattle.messages.specs.Deltas.{DeltaData}
use Rattle.segment_core.specs.declared.answers.Taken.{Taken}
use Rattle.segment_core.specs.declared.answers.Taken.TheVariants as taken
use Rattle.segment_core.specs.declared.answers.Refusal.{Refusal}
use Rattle.segment_core.specs.declared.answers.Refusal.TheVariants as refusal
use Rattle.segment_core.specs.declared.answers.Gap.{Gap}
use Rattle.segment_core.specs.declared.answers.ReadFault.{ReadFault}
use Rattle.segment_core.specs.declared.answers.ReadFault.TheVariants as fault
use Rattle.gossip_core.specs.declared.absorbing.AbsorbRefusal.{AbsorbRefusal}
use Rattle.gossip_core.specs.declared.absorbing.AbsorbRefusal.TheVariants as absorb
use Rattle.snapshot.specs.declared.staging.AddFault.{AddFault}
use Rattle.snapshot.specs.declared.staging.AddFault.TheVariants as add
use Rattle.snapshot.specs.declared.finishing.FinishFault.{FinishFault}
use Rattle.snapshot.specs.declared.finishing.FinishFault.TheVariants as finish
use Rattle.replica.specs.declared.replies.Reply.{Reply}
use Rattle.replica.specs.declared.replies.Reply.TheVariants as reply

-- lack of memory has a reply of its own
abbrev pub refusal_reply : Refusal → Reply
refusal_reply refusal.Memory = reply.Memory
refusal_reply other = reply.Refused other

abbrev pub taken_reply : Result Taken (Refused Fact Refusal) → Reply
taken_reply (Ok taken.Changed) = reply.Changed
taken_reply (Ok taken.Unchanged) = reply.Unchanged
taken_reply (Err refused) = refusal_reply refused.fault

abbrev pub gap_reply : Option Gap → Reply
gap_reply (Some gap) = reply.Gap gap
gap_reply None = reply.NoGap

abbrev pub fault_reply : ReadFault → Reply
fault_reply (fault.Below min) = reply.Below min
fault_reply (fault.Above complete) = reply.Above complete
fault_reply (fault.BrokenBlockChain page number) = reply.BrokenBlockChain page number
fault_reply fault.Memory = reply.Memory

abbrev pub read_reply : Result (List ℕ) ReadFault → Reply
read_reply (Ok image) = reply.Page image
read_reply (Err f) = fault_reply f

abbrev pub tidied_reply : Result (Unit {0}) ReadFault → Reply
tidied_reply (Ok done) = reply.Tidied
tidied_reply (Err f) = fault_reply f

abbrev pub delta_reply : Result DeltaData ReadFault → Reply
delta_reply (Ok delta) = reply.Delta delta
delta_reply (Err f) = fault_reply f

abbrev pub absorbed_reply : Result (Unit {0}) AbsorbRefusal → Reply
absorbed_reply (Ok done) = reply.Absorbed
absorbed_reply (Err (absorb.Uncovered shown)) = reply.Uncovered shown
absorbed_reply (Err (absorb.Refused why)) = refusal_reply why

abbrev pub unadded_reply : AddFault → Reply
unadded_reply add.Stranger = reply.Stranger
unadded_reply (add.Double index) = reply.Double index
unadded_reply add.Memory = reply.Memory

abbrev pub unfinished_reply : FinishFault → Reply
unfinished_reply (finish.Missing index) = reply.Missing index
unfinished_reply (finish.Malformed index) = reply.Malformed index
unfinished_reply finish.Memory = reply.Memory

abbrev pub united_reply : Result (Unit {0}) Refusal → Reply
united_reply (Ok done) = reply.United
united_reply (Err why) = refusal_reply why
