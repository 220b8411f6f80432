-- How what a segment answers is replied.
use Rattle.std.specs.Prelude.{ℕ, List, Result, Ok, Err}
use Rattle.redo_core.specs.declared.facts.Fact.{Fact}
use Rattle.redo_core.specs.declared.refusal.Refused.{Refused}
use Rattle.segment_core.specs.declared.answers.Taken.{Taken}
use Rattle.segment_core.specs.declared.answers.Taken.TheVariants as taken
use Rattle.segment_core.specs.declared.answers.Refusal.{Refusal}
use Rattle.segment_core.specs.declared.answers.Refusal.TheVariants as refusal
use Rattle.segment_core.specs.declared.answers.ReadFault.{ReadFault}
use Rattle.segment_core.specs.declared.answers.ReadFault.TheVariants as fault
use Rattle.gossip_core.specs.declared.absorbing.AbsorbRefusal.{AbsorbRefusal}
use Rattle.gossip_core.specs.declared.absorbing.AbsorbRefusal.TheVariants as absorb
use Rattle.fleet_core.specs.declared.replies.Reply.{Reply}
use Rattle.fleet_core.specs.declared.replies.Reply.TheVariants.{Changed, Unchanged, Page, Below, Above, Joined, Absorbed}
use Rattle.fleet_core.specs.declared.replies.Reply.TheVariants.{Uncovered, Refused as IsRefused, BrokenBlockChain, Memory}

-- lack of memory is replied as such
abbrev pub refusal_reply : Refusal → Reply
refusal_reply refusal.Memory = Memory
refusal_reply other = IsRefused other

abbrev pub taken_reply : Result Taken (Refused Fact Refusal) → Reply
taken_reply (Ok taken.Changed) = Changed
taken_reply (Ok taken.Unchanged) = Unchanged
taken_reply (Err refused) = refusal_reply refused.fault

abbrev pub fault_reply : ReadFault → Reply
fault_reply (fault.Below min) = Below min
fault_reply (fault.Above complete) = Above complete
fault_reply (fault.BrokenBlockChain page number) = BrokenBlockChain page number
fault_reply fault.Memory = Memory

abbrev pub read_reply : Result (List ℕ) ReadFault → Reply
read_reply (Ok image) = Page image
read_reply (Err f) = fault_reply f

abbrev pub joined_reply : Result (Unit {0}) Refusal → Reply
joined_reply (Ok done) = Joined
joined_reply (Err why) = refusal_reply why

abbrev pub absorbed_reply : Result (Unit {0}) AbsorbRefusal → Reply
absorbed_reply (Ok done) = Absorbed
absorbed_reply (Err (absorb.Uncovered shown)) = Uncovered shown
absorbed_reply (Err (absorb.Refused why)) = refusal_reply why
