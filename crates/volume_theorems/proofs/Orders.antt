-- The orders of votes and of contents, and induction over time.
use Rattle.std.proofs.Common.{◌≡◌, ℕ, zero, suc, ◌<◌, ◌≤◌, ◌⊎◌, inr, Option, Some, None, refl, arith}
use Rattle.std.proofs.lemmas.Grind.{common_steps}
use Rattle.volume_theorems.specs.Nodes.{Content, Vote, VoteUpTo, GrowsTo}

-- ---- induction
below : (P : ℕ → Type 0) → ((t : ℕ) → ((s : ℕ) → s < t → P s) → P t) → (n t : ℕ) → t < n → P t
below P step zero t h = absurd (omega arith)
below P step (suc n) t h = step t (λ s lt. below P step n s (omega arith))

-- what holds at each moment if it holds at all earlier ones
pub by_time : (P : ℕ → Type 0) → ((t : ℕ) → ((s : ℕ) → s < t → P s) → P t) → (t : ℕ) → P t
by_time P step t = below P step (suc t) t (omega arith)

pub last_or_earlier : (s t : ℕ) → s ≤ suc t → (s ≡ suc t) ⊎ (s ≤ t)
last_or_earlier s t upto = grind arith

-- ---- votes
pub vote_itself : (v : Option Vote) → VoteUpTo v v
vote_itself None = tt
vote_itself (Some v) = inr (refl, omega arith)

vote_both : (a b c : Vote) → VoteUpTo (Some a) (Some b) → VoteUpTo (Some b) (Some c) → VoteUpTo (Some a) (Some c)
vote_both a b c one two = grind (arith, common_steps)

pub vote_then : (a b c : Option Vote) → VoteUpTo a b → VoteUpTo b c → VoteUpTo a c
vote_then None b c one two = tt
vote_then (Some a) None c one two = absurd one
vote_then (Some a) (Some b) None one two = absurd two
vote_then (Some a) (Some b) (Some c) one two = vote_both a b c one two

pub none_upto : (a b : Option Vote) → a ≡ None → VoteUpTo a b
none_upto None b none = tt
none_upto (Some a) b none = absurd (cc)

-- no vote of the node is of a generation above this one
abbrev pub IsVoteWithin : Option Vote → ℕ → Type 0
IsVoteWithin None generation = Unit {0}
IsVoteWithin (Some v) generation = v.generation ≤ generation

pub within_higher : (v : Option Vote) (low high : ℕ) → low ≤ high → IsVoteWithin v low → IsVoteWithin v high
within_higher None low high h within = tt
within_higher (Some v) low high h within = omega arith

-- ---- contents
pub grows_itself : (a : Content) → GrowsTo a a
grows_itself a = record { epoch = omega arith; cuts = λ c h. h; points = λ p h upto. h }

pub grows_then : (a b c : Content) → GrowsTo a b → GrowsTo b c → GrowsTo a c
grows_then a b c one two =
    let low : a.epoch ≤ b.epoch = one.epoch in
    let high : b.epoch ≤ c.epoch = two.epoch in
    record {
      epoch = omega arith;
      cuts = λ x h. two.cuts x (one.cuts x h);
      points = λ p h upto.
          two.points p
          (one.points p h (λ x inside above (within : x.epoch ≤ b.epoch). upto x (two.cuts x inside) above (omega arith)))
          (λ x inside (above : b.epoch < x.epoch) within. upto x inside (omega arith) within);
    }
