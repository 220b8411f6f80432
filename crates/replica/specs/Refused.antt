-- The replies to requests that are refused, and what these leave.
use Rattle.std.specs.Prelude.{◌≡◌}
use Rattle.replica.specs.Parts.{ReplicaData, IsUnchanged}
use Rattle.replica.specs.declared.requests.Request.{Request}
use Rattle.replica.specs.declared.requests.Request.TheVariants as request
use Rattle.replica.specs.declared.replies.Reply.{Reply}
use Rattle.replica.specs.declared.replies.Reply.TheVariants as reply

-- The fact, the delta or the staged segment does not fit, the read point is not admissible, the block chain is broken, the delta would be
-- too large, the summary is uncovered, the snapshot would have too many pieces, there is no such thing as was named, the pieces do not
-- make a segment yet, or there was no memory.
abbrev pub IsRefusal : Reply → Type 0
IsRefusal (reply.Refused why) = Unit {0}
IsRefusal (reply.Below min) = Unit {0}
IsRefusal (reply.Above complete) = Unit {0}
IsRefusal (reply.BrokenBlockChain page number) = Unit {0}
IsRefusal (reply.Uncovered shown) = Unit {0}
IsRefusal reply.Large = Unit {0}
IsRefusal reply.TooMany = Unit {0}
IsRefusal reply.NoSnapshot = Unit {0}
IsRefusal reply.NoPiece = Unit {0}
IsRefusal reply.Stranger = Unit {0}
IsRefusal (reply.Double index) = Unit {0}
IsRefusal reply.NoStaging = Unit {0}
IsRefusal (reply.Missing index) = Unit {0}
IsRefusal (reply.Malformed index) = Unit {0}
IsRefusal reply.NoNext = Unit {0}
IsRefusal reply.Memory = Unit {0}
IsRefusal told = ⊥

-- After a refused read the cache may keep other images. After any other refused request nothing has changed, in the cache either.
abbrev pub IsAfterRefusal : Request → ReplicaData → ReplicaData → Type 0
IsAfterRefusal (request.Read page point) old new = IsUnchanged old new
IsAfterRefusal asked old new = new ≡ old
