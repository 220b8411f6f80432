-- Births: what each move leaves of them, and that none comes back.
use Rattle.std.proofs.Common.{◌≡◌, ◌≢◌, ℕ, zero, suc, ◌≤◌, ◌⊎◌, ⊎_elim, inl, inr, refl, sym, ap, subst, ◌∙◌, arith}
use Rattle.volume_theorems.specs.Nodes.{VolumeNode}
use Rattle.volume_theorems.specs.Runs.{VolumeRun, Move, MakesMove, IsOneBirth}
use Rattle.volume_theorems.specs.Runs.Move.{Rests, ComesFresh, Learns, IsReplaced, IsCreated, IsFenced, Accepts, IsAdmitted}
use Rattle.volume_theorems.specs.Protocol.{FollowsProtocol, IsReborn, Moves}
use Rattle.volume_theorems.specs.Lives.{NoReturn}
use Rattle.volume_theorems.proofs.Orders.{last_or_earlier}

-- ---- moves
pub made : (run : VolumeRun) (t i : ℕ) (m : Move) → FollowsProtocol run → MakesMove run t i m → Moves run t i m (run.nodes t i) (run.nodes (suc t) i)
made run t i m is makes =
    subst (λ (x : Move). Moves run t i x (run.nodes t i) (run.nodes (suc t) i)) makes.1
    (subst (λ (j : ℕ). Moves run t j (run.moves t) (run.nodes t j) (run.nodes (suc t) j)) makes.0 (is.moves t))

-- a node stays as it is, or makes the move of that moment
abbrev pub IsNext : VolumeRun → ℕ → ℕ → Type 0
IsNext run t i =
    (run.nodes (suc t) i ≡ run.nodes t i)
    ⊎ (MakesMove run t i (run.moves t) × Moves run t i (run.moves t) (run.nodes t i) (run.nodes (suc t) i))

pub goes_on : (run : VolumeRun) (t i : ℕ) → FollowsProtocol run → IsNext run t i
goes_on run t i is =
    let which : (run.actor t ≡ i) ⊎ (i ≢ run.actor t) = grind arith in
    ⊎_elim
    (λ (acts : run.actor t ≡ i). let makes : MakesMove run t i (run.moves t) = (acts, refl) in inr (makes, made run t i (run.moves t) is makes))
    (λ (rests : i ≢ run.actor t). inl (is.others t i rests))
    which

-- ---- births
same_birth : (run : VolumeRun) (t i : ℕ) (old new other : VolumeNode) → new ≡ other → other.birth ≡ old.birth
    → (new.birth ≡ old.birth) ⊎ IsReborn run t i new
same_birth run t i old new other is same = inl (ap (λ (n : VolumeNode). n.birth) is ∙ same)

birth_after : (run : VolumeRun) (t i : ℕ) (m : Move) (old new : VolumeNode) → Moves run t i m old new
    → (new.birth ≡ old.birth) ⊎ IsReborn run t i new
birth_after run t i Rests old new says = same_birth run t i old new old says refl
birth_after run t i ComesFresh old new says = inr says
birth_after run t i Learns old new says = same_birth run t i old new _ says.same refl
birth_after run t i IsReplaced old new says = same_birth run t i old new _ says.same refl
birth_after run t i IsCreated old new says = same_birth run t i old new _ says.new_is refl
birth_after run t i (IsFenced e) old new says = same_birth run t i old new _ says.new_is refl
birth_after run t i (Accepts e k) old new says = same_birth run t i old new _ says.new_is refl
birth_after run t i (IsAdmitted e) old new says = same_birth run t i old new _ says.new_is refl

pub next_birth : (run : VolumeRun) (t i : ℕ) → FollowsProtocol run → IsOneBirth run i t (suc t) ⊎ IsReborn run t i (run.nodes (suc t) i)
next_birth run t i is = ⊎_elim
    (λ (rests : run.nodes (suc t) i ≡ run.nodes t i). inl (ap (λ (n : VolumeNode). n.birth) (sym rests)))
    (λ says. ⊎_elim (λ (same : (run.nodes (suc t) i).birth ≡ (run.nodes t i).birth). inl (sym same)) (λ reborn. inr reborn)
    (birth_after run t i (run.moves t) (run.nodes t i) (run.nodes (suc t) i) says.1))
    (goes_on run t i is)

still_gone : (run : VolumeRun) (i r t : ℕ) → FollowsProtocol run → r ≤ t → ¬ (IsOneBirth run i r t) → ¬ (IsOneBirth run i r (suc t))
still_gone run i r t is upto gone back = ⊎_elim
    (λ (same : IsOneBirth run i t (suc t)). gone (back ∙ sym same))
    (λ (reborn : IsReborn run t i (run.nodes (suc t) i)). reborn.birth r upto back)
    (next_birth run t i is)

gone_since : (run : VolumeRun) (i r s : ℕ) → FollowsProtocol run → r ≤ s → ¬ (IsOneBirth run i r s) → (t : ℕ) → s ≤ t → ¬ (IsOneBirth run i r t)
gone_since run i r s is upto gone zero after =
    let here : s ≡ zero = omega arith in
    subst (λ (x : ℕ). ¬ (IsOneBirth run i r x)) here gone
gone_since run i r s is upto gone (suc t) after = ⊎_elim
    (λ (here : s ≡ suc t). subst (λ (x : ℕ). ¬ (IsOneBirth run i r x)) here gone)
    (λ (earlier : s ≤ t). still_gone run i r t is (omega arith) (gone_since run i r s is upto gone t earlier))
    (last_or_earlier s t after)

pub no_return : NoReturn
no_return run i r s t is first second back =
    let which : ((run.nodes r i).birth ≡ (run.nodes s i).birth) ⊎ ((run.nodes r i).birth ≢ (run.nodes s i).birth) = grind arith in
    ⊎_elim
    (λ (same : IsOneBirth run i r s). same)
    (λ (gone : ¬ (IsOneBirth run i r s)). absurd (gone_since run i r s is first gone t second back))
    which

-- in between it is the same birth
pub between : (run : VolumeRun) (i r s t : ℕ) → FollowsProtocol run → r ≤ s → s ≤ t → IsOneBirth run i r t → IsOneBirth run i s t
between run i r s t is first second back = sym (no_return run i r s t is first second back) ∙ back
