-- What an engine that has asked its quorum may rely on.
use Rattle.std.proofs.Common.{◌≡◌, ℕ, zero, suc, ◌<◌, ◌≤◌, ◌⊎◌, ⊎_elim, sym, ◌∙◌, subst, ap, arith, IsTrue}
use Rattle.volume_theorems.specs.Nodes.{VolumeNode, IsOfGeneration}
use Rattle.volume_theorems.specs.Runs.{VolumeRun, Move, MakesMove, IsOneBirth}
use Rattle.volume_theorems.specs.Runs.Move.{Rests, ComesFresh, Learns, IsReplaced, IsCreated, IsFenced, Accepts, IsAdmitted}
use Rattle.volume_theorems.specs.Opening.{IsInQuorum, HasGathered, HasShown, HasAsked}
use Rattle.volume_theorems.specs.Protocol.{FollowsProtocol, IsRaised, Moves}
use Rattle.volume_theorems.specs.Lives.{IsLaterNode}
use Rattle.volume_theorems.specs.Standing.{IsNotBelow, QuorumsStand, OneOfGeneration}
use Rattle.volume_theorems.proofs.Quorums.{quorums_meet}
use Rattle.volume_theorems.proofs.Orders.{by_time}
use Rattle.volume_theorems.proofs.Births.{goes_on, no_return, between}
use Rattle.volume_theorems.proofs.Guards.{asked_by_union, gathered_before, raised}
use Rattle.volume_theorems.proofs.Lives.{one_birth}

-- ---- a node of a quorum, from when it is fenced until it has shown what it has
-- what the fence leaves
pub record IsFencedTo (run : VolumeRun) (e i s : ℕ) : Type 0 where
  pub birth : IsOneBirth run i s (suc s)
  pub under : IsOfGeneration (run.nodes (suc s) i) (run.engines e).generation

pub fence_leaves : (run : VolumeRun) (e i s : ℕ) → IsRaised run e (run.nodes s i) (run.nodes (suc s) i) → IsFencedTo run e i s
fence_leaves run e i s rises = record {
  birth = sym (ap (λ (n : VolumeNode). n.birth) rises.new_is);
  under = (
    ap (λ (n : VolumeNode). n.is_member) rises.new_is ∙ rises.member,
    ap (λ (n : VolumeNode). n.generation) rises.new_is,
  );
}

-- the node is of the engine's generation, in the birth that was fenced
pub record IsHeld (run : VolumeRun) (e i t : ℕ) : Type 0 where
  pub under : IsOfGeneration (run.nodes t i) (run.engines e).generation
  pub birth : IsOneBirth run i ((run.engines e).fenced i) t

held_until : (run : VolumeRun) (e i p q : ℕ) → FollowsProtocol run → HasGathered run e → IsInQuorum run e i → HasShown run e i p
    → (run.engines e).fenced i < q → q ≤ p → IsHeld run e i q
held_until run e i p q is has among shown first last =
    let f : ℕ = (run.engines e).fenced i in
    let left : IsFencedTo run e i f = fence_leaves run e i f (raised run e i is has among) in
    let here : IsOneBirth run i f q = no_return run i f q p is (omega arith) last shown.birth in
    let from : IsLaterNode (run.nodes (suc f) i) (run.nodes q i) = one_birth run i (suc f) q is first (sym left.birth ∙ here) in
    let to : IsLaterNode (run.nodes q i) (run.nodes p i) = one_birth run i q p is last (sym here ∙ shown.birth) in
    let member : IsTrue (run.nodes q i).is_member = from.member left.under.0 in
    let one : (run.nodes (suc f) i).generation ≤ (run.nodes q i).generation = from.generation left.under.0 in
    let two : (run.nodes q i).generation ≤ (run.nodes p i).generation = to.generation member in
    let start : (run.nodes (suc f) i).generation ≡ (run.engines e).generation = left.under.1 in
    let end : (run.nodes p i).generation ≡ (run.engines e).generation = shown.under.1 in
    record { under = (member, omega arith); birth = here }

pub held_when_gathered : (run : VolumeRun) (e t i : ℕ) → FollowsProtocol run → HasAsked run e t → IsInQuorum run e i
    → IsHeld run e i (run.engines e).gathered
held_when_gathered run e t i is asked among =
    let of = asked.shown i among in
    held_until run e i of.0 (run.engines e).gathered is asked.gathered among of.2 (asked.gathered.before i among) of.2.after

-- ---- from then on
-- the nodes of every quorum that was gathered by the moment
abbrev pub AllStand : VolumeRun → ℕ → Type 0
AllStand run t = (e s i : ℕ) → HasAsked run e s → IsInQuorum run e i → (run.engines e).gathered ≤ t → IsNotBelow (run.nodes t i) (run.engines e).generation

-- an engine that has gathered its quorum later is of no lower generation, if all stand at that moment
higher_since : (run : VolumeRun) (e f s t : ℕ) → FollowsProtocol run → HasAsked run e s → HasAsked run f t
    → (run.engines e).gathered ≤ (run.engines f).gathered → AllStand run (run.engines f).gathered
    → (run.engines e).generation ≤ (run.engines f).generation
higher_since run e f s t is one other order stand =
    let met = quorums_meet run (IsInQuorum run e) (IsInQuorum run f) is
    ((run.engines e).quorum, one.gathered.many, λ i among. among) ((run.engines f).quorum, other.gathered.many, λ i among. among) in
    let held : IsHeld run f met.0 (run.engines f).gathered = held_when_gathered run f t met.0 is other met.2 in
    let upto : (run.engines e).generation ≤ (run.nodes (run.engines f).gathered met.0).generation = stand e s met.0 one met.1 order held.under.0 in
    let own : (run.nodes (run.engines f).gathered met.0).generation ≡ (run.engines f).generation = held.under.1 in
    omega arith

-- a node that is in a birth that had begun when the quorum was gathered is still a member
still_member : (run : VolumeRun) (e s i r q : ℕ) → FollowsProtocol run → HasAsked run e s → IsInQuorum run e i
    → r ≤ (run.engines e).gathered → (run.engines e).gathered ≤ q → IsOneBirth run i r q → IsTrue (run.nodes q i).is_member
still_member run e s i r q is asked among first last same =
    let held : IsHeld run e i (run.engines e).gathered = held_when_gathered run e s i is asked among in
    let later = one_birth run i (run.engines e).gathered q is last (between run i r (run.engines e).gathered q is first last same) in
    later.member held.under.0

-- what a move of a node of the quorum starts from
pub record StandsBefore (run : VolumeRun) (e i q : ℕ) : Type 0 where
  pub asked_by : ℕ
  pub asked : HasAsked run e asked_by
  pub among : IsInQuorum run e i
  pub gathered : (run.engines e).gathered ≤ q
  pub all : (s : ℕ) → s ≤ q → AllStand run s

unchanged_stands : (generation : ℕ) (old new : VolumeNode) → new ≡ old → IsNotBelow old generation → IsNotBelow new generation
unchanged_stands generation old new same stands = subst (λ (n : VolumeNode). IsNotBelow n generation) (sym same) stands

entering_stands : (run : VolumeRun) (e i q f : ℕ) (new : VolumeNode) → FollowsProtocol run → StandsBefore run e i q
    → Moves run q i (IsAdmitted f) (run.nodes q i) new → IsNotBelow new (run.engines e).generation
entering_stands run e i q f new is b says m =
    let heard = says.admits.heard in
    let asked : HasAsked run f q = asked_by_union run f q says.admits.union says.admits.unites in
    let one = says.admits.greatest.of_one in
    let early : (run.engines f).gathered < q = gathered_before run f q one.0 asked one.1 in
    let order : (run.engines e).gathered ≤ (run.engines f).gathered =
    ⊎_elim
    (λ (before : heard.0 ≤ (run.engines e).gathered).
    absurd (says.out (still_member run e b.asked_by i heard.0 q is b.asked b.among before b.gathered heard.3)))
    (λ (after : (run.engines e).gathered < heard.0). let late : heard.0 < (run.engines f).gathered = heard.1 in omega arith)
    (let which : (heard.0 ≤ (run.engines e).gathered) ⊎ ((run.engines e).gathered < heard.0) = grind arith in which) in
    let higher : (run.engines e).generation ≤ (run.engines f).generation =
    higher_since run e f b.asked_by q is b.asked asked order (b.all (run.engines f).gathered (omega arith)) in
    let own : new.generation ≡ (run.engines f).generation = ap (λ (n : VolumeNode). n.generation) says.new_is in
    omega arith

created_stands : (run : VolumeRun) (e i q : ℕ) (new : VolumeNode) → FollowsProtocol run → StandsBefore run e i q
    → Moves run q i IsCreated (run.nodes q i) new → IsNotBelow new (run.engines e).generation
created_stands run e i q new is b says m =
    absurd (says.out (still_member run e b.asked_by i 0 q is b.asked b.among (omega arith) b.gathered (sym says.birth)))

stands_after : (run : VolumeRun) (e i q : ℕ) (m : Move) (new : VolumeNode) → FollowsProtocol run → StandsBefore run e i q
    → IsNotBelow (run.nodes q i) (run.engines e).generation → Moves run q i m (run.nodes q i) new → IsNotBelow new (run.engines e).generation
stands_after run e i q Rests new is b had says = unchanged_stands (run.engines e).generation (run.nodes q i) new says had
stands_after run e i q ComesFresh new is b had says = λ m. absurd (says.nothing.member m)
stands_after run e i q Learns new is b had says =
    subst (λ (n : VolumeNode). IsNotBelow n (run.engines e).generation) (sym says.same) had
stands_after run e i q IsReplaced new is b had says =
    subst (λ (n : VolumeNode). IsNotBelow n (run.engines e).generation) (sym says.same) had
stands_after run e i q IsCreated new is b had says = created_stands run e i q new is b says
stands_after run e i q (IsFenced f) new is b had says =
    let upto : (run.engines e).generation ≤ (run.nodes q i).generation = had says.member in
    let above : (run.nodes q i).generation < (run.engines f).generation = says.above in
    let own : new.generation ≡ (run.engines f).generation = ap (λ (n : VolumeNode). n.generation) says.new_is in
    λ m. omega arith
stands_after run e i q (Accepts f k) new is b had says =
    subst (λ (n : VolumeNode). IsNotBelow n (run.engines e).generation) (sym says.new_is) had
stands_after run e i q (IsAdmitted f) new is b had says = entering_stands run e i q f new is b says

next_stands : (run : VolumeRun) (e i q : ℕ) → FollowsProtocol run → StandsBefore run e i q → IsNotBelow (run.nodes (suc q) i) (run.engines e).generation
next_stands run e i q is b =
    let had : IsNotBelow (run.nodes q i) (run.engines e).generation = b.all q (omega arith) e b.asked_by i b.asked b.among b.gathered in
    ⊎_elim
    (λ (rests : run.nodes (suc q) i ≡ run.nodes q i).
    unchanged_stands (run.engines e).generation (run.nodes q i) (run.nodes (suc q) i) rests had)
    (λ says. stands_after run e i q (run.moves q) (run.nodes (suc q) i) is b had says.1)
    (goes_on run q i is)

stands_now : (run : VolumeRun) (e s i t : ℕ) → FollowsProtocol run → HasAsked run e s → IsInQuorum run e i → (run.engines e).gathered ≡ t
    → IsNotBelow (run.nodes t i) (run.engines e).generation
stands_now run e s i t is asked among now =
    let held : IsHeld run e i (run.engines e).gathered = held_when_gathered run e s i is asked among in
    let own : (run.nodes (run.engines e).gathered i).generation ≡ (run.engines e).generation = held.under.1 in
    let here : IsNotBelow (run.nodes (run.engines e).gathered i) (run.engines e).generation = λ m. omega arith in
    subst (λ (x : ℕ). IsNotBelow (run.nodes x i) (run.engines e).generation) now here

stands_next : (run : VolumeRun) (t : ℕ) → FollowsProtocol run → ((s : ℕ) → s < t → AllStand run s) → (e s i : ℕ) → HasAsked run e s → IsInQuorum run e i
    → (run.engines e).gathered < t → IsNotBelow (run.nodes t i) (run.engines e).generation
stands_next run zero is earlier e s i asked among before = absurd (omega arith)
stands_next run (suc q) is earlier e s i asked among before =
    let b : StandsBefore run e i q = record {
      asked_by = s;
      asked = asked;
      among = among;
      gathered = omega arith;
      all = λ x upto. earlier x (omega arith);
    } in
    next_stands run e i q is b

all_stand : (run : VolumeRun) → FollowsProtocol run → (t : ℕ) → AllStand run t
all_stand run is = by_time (AllStand run) (λ t earlier e s i asked among upto. ⊎_elim
    (λ (now : (run.engines e).gathered ≡ t). stands_now run e s i t is asked among now)
    (λ (before : (run.engines e).gathered < t). stands_next run t is earlier e s i asked among before)
    (let which : ((run.engines e).gathered ≡ t) ⊎ ((run.engines e).gathered < t) = grind arith in which))

-- an engine that has gathered its quorum later is of no lower generation
pub rises_since : (run : VolumeRun) (e f s t : ℕ) → FollowsProtocol run → HasAsked run e s → HasAsked run f t
    → (run.engines e).gathered ≤ (run.engines f).gathered → (run.engines e).generation ≤ (run.engines f).generation
rises_since run e f s t is one other order = higher_since run e f s t is one other order (all_stand run is (run.engines f).gathered)

pub quorums_stand : QuorumsStand
quorums_stand run e t i is asked among =
    let held : IsHeld run e i (run.engines e).gathered = held_when_gathered run e t i is asked among in
    record { under = held.under; birth = held.birth; since = λ x upto. all_stand run is x e t i asked among upto }

-- ---- one engine of a generation
same_fence : (run : VolumeRun) (e f s t : ℕ) → s ≡ t → run.moves s ≡ IsFenced e → run.moves t ≡ IsFenced f → e ≡ f
same_fence run e f s t here one other =
    let again : run.moves s ≡ IsFenced f = subst (λ (x : ℕ). run.moves x ≡ IsFenced f) (sym here) other in
    cc

-- of two engines with the same generation, the one whose quorum was not gathered later is the other one
same_engine : (run : VolumeRun) (e f s t : ℕ) → FollowsProtocol run → HasAsked run e s → HasAsked run f t
    → (run.engines e).generation ≡ (run.engines f).generation → (run.engines e).gathered ≤ (run.engines f).gathered → e ≡ f
same_engine run e f s t is one other same order =
    let met = quorums_meet run (IsInQuorum run e) (IsInQuorum run f) is
    ((run.engines e).quorum, one.gathered.many, λ i among. among) ((run.engines f).quorum, other.gathered.many, λ i among. among) in
    let j : ℕ = met.0 in
    let x : ℕ = (run.engines e).fenced j in
    let y : ℕ = (run.engines f).fenced j in
    let g : ℕ = (run.engines e).gathered in
    let rises = raised run e j is one.gathered met.1 in
    let again = raised run f j is other.gathered met.2 in
    let low : (run.nodes x j).generation < (run.engines e).generation = rises.above in
    let low_again : (run.nodes y j).generation < (run.engines f).generation = again.above in
    let early : y < g =
    ⊎_elim
    (λ (before : y < g). before)
    (λ (after : g ≤ y). let upto : (run.engines e).generation ≤ (run.nodes y j).generation = all_stand run is y e s j one met.1 after again.member in absurd (omega arith))
    (let which : (y < g) ⊎ (g ≤ y) = grind arith in which) in
    let held : IsHeld run e j g = held_when_gathered run e s j is one met.1 in
    let held_again : IsHeld run f j (run.engines f).gathered = held_when_gathered run f t j is other met.2 in
    let birth : IsOneBirth run j x y =
    held.birth ∙ sym (no_return run j y g (run.engines f).gathered is (omega arith) order held_again.birth) in
    let left = fence_leaves run e j x rises in
    let left_again = fence_leaves run f j y again in
    let own : (run.nodes (suc x) j).generation ≡ (run.engines e).generation = left.under.1 in
    let own_again : (run.nodes (suc y) j).generation ≡ (run.engines f).generation = left_again.under.1 in
    ⊎_elim
    (λ (here : x ≡ y).
    let fence : MakesMove run x j (IsFenced e) = one.gathered.fenced j met.1 in
    let fence_again : MakesMove run y j (IsFenced f) = other.gathered.fenced j met.2 in
    same_fence run e f x y here fence.1 fence_again.1)
    (λ apart. ⊎_elim
    (λ (first : x < y).
    let later = one_birth run j (suc x) y is first (sym left.birth ∙ birth) in
    let upto : (run.nodes (suc x) j).generation ≤ (run.nodes y j).generation = later.generation left.under.0 in
    absurd (omega arith))
    (λ (second : y < x).
    let later = one_birth run j (suc y) x is second (sym left_again.birth ∙ sym birth) in
    let upto : (run.nodes (suc y) j).generation ≤ (run.nodes x j).generation = later.generation left_again.under.0 in
    absurd (omega arith))
    apart)
    (let which : (x ≡ y) ⊎ ((x < y) ⊎ (y < x)) = grind arith in which)

pub one_of_generation : OneOfGeneration
one_of_generation run e f s t is one other same = ⊎_elim
    (λ (order : (run.engines e).gathered ≤ (run.engines f).gathered). same_engine run e f s t is one other same order)
    (λ (order : (run.engines f).gathered ≤ (run.engines e).gathered). sym (same_engine run f e t s is other one (sym same) order))
    (let which : ((run.engines e).gathered ≤ (run.engines f).gathered) ⊎ ((run.engines f).gathered ≤ (run.engines e).gathered) = grind arith in which)
