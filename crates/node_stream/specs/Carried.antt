-- Which of a guard's turns its replica carried out.
use Rattle.std.specs.Prelude.{◌≡◌, List, [], ◌∷◌, map}
use Rattle.replica.specs.Meaning.{Turn}
use Rattle.replica.specs.declared.requests.Request.{Request as ReplicaRequest}
use Rattle.replica.specs.declared.replies.Reply.{Reply as ReplicaReply}
use Rattle.guard.specs.Keeping.{GuardTurn}
use Rattle.guard.specs.declared.requests.Request.{Request}
use Rattle.guard.specs.declared.requests.Request.TheVariants as request
use Rattle.guard.specs.declared.replies.Reply.{Reply}
use Rattle.guard.specs.declared.replies.Reply.TheVariants as reply

-- a request to the replica with its reply, in front of others; a request that the guard answers itself leaves the others alone
abbrev pub carried_before : Request → Reply → List (ReplicaRequest × ReplicaReply) → List (ReplicaRequest × ReplicaReply)
carried_before (request.As generation birth asked) (reply.Headed of_generation of_birth told) others = (asked, told) ∷ others
carried_before (request.Plain asked) (reply.Plain told) others = (asked, told) ∷ others
carried_before asked told others = others

-- those of all turns
abbrev pub carried_out : List GuardTurn → List (ReplicaRequest × ReplicaReply)
carried_out [] = []
carried_out (t ∷ ts) = carried_before t.asked t.told (carried_out ts)

-- the replica's turns have these requests and replies, whatever each is said to bring
abbrev pub AreCarriedOut : List GuardTurn → List Turn → Type 0
AreCarriedOut turns own = map (λ t. (t.asked, t.told)) own ≡ carried_out turns
