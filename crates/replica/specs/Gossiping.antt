-- What the requests of gossip do, for arbitrary facts.
use Rattle.std.specs.Prelude.{◌≡◌, ℕ, ◌⊎◌, [], Result, OnOk, OnErr, nat_lt, if◌then◌else◌}
use Rattle.messages.specs.Summaries.{SummaryData}
use Rattle.messages.specs.Deltas.{DeltaData}
use Rattle.segment_theorems.specs.State.{State}
use Rattle.segment_core.specs.declared.answers.ReadFault.{ReadFault}
use Rattle.gossip_core.specs.Sizes.{delta_len}
use Rattle.gossip_core.specs.Calls.{SumsUp, RepliesTo, AbsorbsDelta}
use Rattle.gossip_core.specs.declared.absorbing.AbsorbRefusal.{AbsorbRefusal}
use Rattle.read_cache.specs.Cached.{Cached}
use Rattle.replica.specs.declared.replies.Reply.{Reply}
use Rattle.replica.specs.declared.replies.Reply.TheVariants as reply
use Rattle.replica.specs.Replying.{delta_reply, absorbed_reply}

-- the summary of the segment is returned, unless memory runs out
abbrev pub Asks : State → Reply → Type 0
Asks s told = (told ≡ reply.Memory) ⊎ ((summary : SummaryData) × SumsUp s summary × (told ≡ reply.Summary summary))

-- what the segment replies to a summary is returned
pub record TellsDelta (s : State) (summary : SummaryData) (told : Reply) : Type 0 where
  pub answer : Result DeltaData ReadFault
  pub replies : RepliesTo s summary answer
  pub is : told ≡ delta_reply answer

-- `Large` replaces a delta of more than so many bytes on the wire
abbrev pub limited_reply : ℕ → Reply → Reply
limited_reply most (reply.Delta d) = if nat_lt most (delta_len d) then reply.Large else reply.Delta d
limited_reply most told = told

-- the segment replies to a summary as without a limit, but for a delta that is larger
pub record RepliesWithin (s : State) (summary : SummaryData) (most : ℕ) (told : Reply) : Type 0 where
  pub whole : Reply
  pub replies : TellsDelta s summary whole
  pub is : told ≡ limited_reply most whole

-- The segment absorbs a delta that was made for a summary, and no image stays in the cache. Where it is refused nothing has changed, and
-- each image stays.
pub record Absorbs (old : Cached) (summary : SummaryData) (delta : DeltaData) (told : Reply) (new : Cached) : Type 0 where
  pub answer : Result (Unit {0}) AbsorbRefusal
  pub absorbs : AbsorbsDelta old.segment summary delta answer new.segment
  pub drops : OnOk answer (new.images ≡ [])
  pub unchanged : OnErr answer (new ≡ old)
  pub pages : new.pages ≡ old.pages
  pub is : told ≡ absorbed_reply answer
