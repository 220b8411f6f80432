-- Two quorums have a node in common.
use Rattle.std.proofs.Common.{◌≡◌, ℕ, zero, suc, ◌+◌, ◌<◌, ◌≤◌, Bool, true, false, IsTrue, refl, arith}
use Rattle.volume_theorems.specs.Quorums.{one_if, size_below}
use Rattle.volume_theorems.specs.Runs.{VolumeRun, Many}
use Rattle.volume_theorems.specs.Protocol.{FollowsProtocol}

abbrev InBoth : (ℕ → Bool) → (ℕ → Bool) → Type 0
InBoth a b = (i : ℕ) × IsTrue (a i) × IsTrue (b i)

last_or_below : (n : ℕ) (a b : ℕ → Bool) (x y : Bool) → a n ≡ x → b n ≡ y
    → suc n < (one_if x + size_below n a) + (one_if y + size_below n b) → (n < size_below n a + size_below n b → InBoth a b) → InBoth a b
last_or_below n a b true true p q more below = (n, p, q)
last_or_below n a b true false p q more below = below (omega arith)
last_or_below n a b false true p q more below = below (omega arith)
last_or_below n a b false false p q more below = below (omega arith)

shared_node : (n : ℕ) (a b : ℕ → Bool) → n < size_below n a + size_below n b → InBoth a b
shared_node zero a b more = absurd (omega arith)
shared_node (suc n) a b more = last_or_below n a b (a n) (b n) refl refl more (λ h. shared_node n a b h)

pub meet_within : (run : VolumeRun) (P Q : ℕ → Type 0) → run.roster < run.quorum + run.quorum → Many run P → Many run Q → (i : ℕ) × P i × Q i
meet_within run P Q overlap p q =
    let left : run.quorum ≤ size_below run.roster p.0 = p.1 in
    let right : run.quorum ≤ size_below run.roster q.0 = q.1 in
    let enough : run.roster < size_below run.roster p.0 + size_below run.roster q.0 = omega arith in
    let both : InBoth p.0 q.0 = shared_node run.roster p.0 q.0 enough in
    (both.0, p.2 both.0 both.1, q.2 both.0 both.2)

pub quorums_meet : (run : VolumeRun) (P Q : ℕ → Type 0) → FollowsProtocol run → Many run P → Many run Q → (i : ℕ) × P i × Q i
quorums_meet run P Q is p q = meet_within run P Q is.overlap p q
