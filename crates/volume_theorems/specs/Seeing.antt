-- What a quorum had under one generation is found by each engine of a higher one.
use Rattle.std.specs.Prelude.{ℕ, ◌<◌, ◌≤◌, Option, Some}
use Rattle.volume_theorems.specs.Nodes.{Content, Vote, VoteUpTo}
use Rattle.volume_theorems.specs.Runs.{VolumeRun, Many}
use Rattle.volume_theorems.specs.Opening.{HasAsked, WasUnder, IsUnion, IsBest}
use Rattle.volume_theorems.specs.Protocol.{FollowsProtocol}

-- If a quorum has accepted a truncation under one generation, an engine of a higher generation finds it, or a greater vote,
abbrev pub VotesAreSeen : Type 0
VotesAreSeen =
    (run : VolumeRun) (e f : ℕ) (vote : Vote) (best : Option Vote) (t : ℕ) → FollowsProtocol run
    → Many run (WasUnder run e (λ n. VoteUpTo (Some vote) n.accepted)) → HasAsked run f t
    → (run.engines e).generation < (run.engines f).generation → IsBest run f best → VoteUpTo (Some vote) best

-- and if a quorum has reached an epoch, the engine's union is of that epoch or a later one.
abbrev pub EpochsAreSeen : Type 0
EpochsAreSeen =
    (run : VolumeRun) (e f epoch : ℕ) (union : Content) (t : ℕ) → FollowsProtocol run
    → Many run (WasUnder run e (λ n. epoch ≤ n.content.epoch)) → IsUnion run f t union
    → (run.engines e).generation < (run.engines f).generation → epoch ≤ union.epoch
