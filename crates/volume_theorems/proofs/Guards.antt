-- What holds of each node at each moment: it has no vote of a generation above its own, and none before it is a member.
use Rattle.std.proofs.Common.{◌≡◌, ℕ, zero, suc, ◌<◌, ◌≤◌, ⊎_elim, Option, None, refl, sym, subst, arith, IsTrue, true}
use Rattle.volume_theorems.specs.Nodes.{Content, Vote, VolumeNode, HasNothing, volume_node, with_content, with_generation, with_vote}
use Rattle.volume_theorems.specs.Runs.{VolumeRun, Move}
use Rattle.volume_theorems.specs.Runs.Move.{Rests, ComesFresh, Learns, IsReplaced, IsCreated, IsFenced, Accepts, IsAdmitted}
use Rattle.volume_theorems.specs.Opening.{IsInQuorum, HasGathered, HasAsked, AnswersUnder, CountsUnder, IsUnion}
use Rattle.volume_theorems.specs.Protocol.{FollowsProtocol, IsRaised, IsEntering, Moves}
use Rattle.volume_theorems.proofs.Orders.{last_or_earlier, IsVoteWithin, within_higher}
use Rattle.volume_theorems.proofs.Births.{made, goes_on}

-- ---- what an engine that has asked has heard
pub asked_by_union : (run : VolumeRun) (e t : ℕ) (u : Content) → IsUnion run e t u → HasAsked run e t
asked_by_union run e t u is = record { gathered = is.gathered; shown = λ i among. let of = is.of_all i among in (of.0, of.1, of.2) }

pub asked_later : (run : VolumeRun) (e s t : ℕ) → s ≤ t → HasAsked run e s → HasAsked run e t
asked_later run e s t upto is = record {
  gathered = is.gathered;
  shown = λ i among. let of = is.shown i among in let before : of.0 < s = of.1 in (of.0, omega arith, of.2);
}

pub gathered_before : (run : VolumeRun) (e t i : ℕ) → HasAsked run e t → IsInQuorum run e i → (run.engines e).gathered < t
gathered_before run e t i is among =
    let of = is.shown i among in
    let before : of.0 < t = of.1 in
    let after : (run.engines e).gathered ≤ of.0 = of.2.after in
    omega arith

pub fenced_before : (run : VolumeRun) (e t i : ℕ) → HasAsked run e t → IsInQuorum run e i → (run.engines e).fenced i < t
fenced_before run e t i is among =
    let early : (run.engines e).fenced i < (run.engines e).gathered = is.gathered.before i among in
    let late : (run.engines e).gathered < t = gathered_before run e t i is among in
    omega arith

pub raised : (run : VolumeRun) (e i : ℕ) → FollowsProtocol run → HasGathered run e → IsInQuorum run e i
    → IsRaised run e (run.nodes ((run.engines e).fenced i) i) (run.nodes (suc ((run.engines e).fenced i)) i)
raised run e i is has among = made run ((run.engines e).fenced i) i (IsFenced e) is (has.fenced i among)

-- a node that answers under the engine's generation counts for the engine
pub answers_count : (run : VolumeRun) (e s i : ℕ) → AnswersUnder run e s i → CountsUnder run e s i
answers_count run e s i answers =
    let same : (run.nodes s i).generation ≡ (run.engines e).generation = answers.under.1 in
    record { asked = answers.asked; member = answers.under.0; upto = omega arith }

-- ---- guards
pub record IsGuarded (n : VolumeNode) : Type 0 where
  pub outside : ¬ (IsTrue n.is_member) → n.accepted ≡ None
  pub within : IsVoteWithin n.accepted n.generation

as_before : (old new : VolumeNode) → new ≡ old → IsGuarded old → IsGuarded new
as_before old new same is = subst (λ (n : VolumeNode). IsGuarded n) (sym same) is

nothing_guarded : (n : VolumeNode) → HasNothing n → IsGuarded n
nothing_guarded n has = record {
  outside = λ out. has.accepted;
  within = subst (λ (v : Option Vote). IsVoteWithin v n.generation) (sym has.accepted) tt;
}

-- the guards of all nodes, up to the moment
abbrev pub AllGuarded : VolumeRun → ℕ → Type 0
AllGuarded run t = (s : ℕ) → s ≤ t → (j : ℕ) → IsGuarded (run.nodes s j)

entered_guarded : (run : VolumeRun) (t e i : ℕ) (old new : VolumeNode) → FollowsProtocol run → AllGuarded run t → IsEntering run t e i old new → IsGuarded new
entered_guarded run t e i old new is all says =
    let asked : HasAsked run e t = asked_by_union run e t says.admits.union says.admits.unites in
    let one = says.admits.greatest.of_one in
    let f : ℕ = (run.engines e).fenced one.0 in
    let early : f < t = fenced_before run e t one.0 asked one.1 in
    let rises = raised run e one.0 is asked.gathered one.1 in
    let above : (run.nodes f one.0).generation < (run.engines e).generation = rises.above in
    let upto : f ≤ t = omega arith in
    let higher : (run.nodes f one.0).generation ≤ (run.engines e).generation = omega arith in
    let here : IsVoteWithin says.vote (run.engines e).generation =
    subst (λ (v : Option Vote). IsVoteWithin v (run.engines e).generation) (sym one.2)
    (within_higher (run.nodes f one.0).accepted (run.nodes f one.0).generation (run.engines e).generation higher (all f upto one.0).within) in
    let left : IsGuarded (volume_node old.birth true (run.engines e).generation says.vote old.content) =
    record { outside = λ no. absurd (no refl); within = here } in
    subst (λ (n : VolumeNode). IsGuarded n) (sym says.new_is) left

guarded_after : (run : VolumeRun) (t i : ℕ) (m : Move) (new : VolumeNode) → FollowsProtocol run → AllGuarded run t → IsGuarded (run.nodes t i)
    → Moves run t i m (run.nodes t i) new → IsGuarded new
guarded_after run t i Rests new is all had says = as_before (run.nodes t i) new says had
guarded_after run t i ComesFresh new is all had says = nothing_guarded new says.nothing
guarded_after run t i Learns new is all had says =
    let left : IsGuarded (with_content (run.nodes t i) new.content) = record { outside = had.outside; within = had.within } in
    subst (λ (n : VolumeNode). IsGuarded n) (sym says.same) left
guarded_after run t i IsReplaced new is all had says =
    let left : IsGuarded (with_content (run.nodes t i) new.content) = record { outside = had.outside; within = had.within } in
    subst (λ (n : VolumeNode). IsGuarded n) (sym says.same) left
guarded_after run t i IsCreated new is all had says =
    let left : IsGuarded (volume_node (run.nodes t i).birth true 1 None (run.nodes t i).content) =
    record { outside = λ no. absurd (no refl); within = tt } in
    subst (λ (n : VolumeNode). IsGuarded n) (sym says.new_is) left
guarded_after run t i (IsFenced e) new is all had says =
    let above : (run.nodes t i).generation < (run.engines e).generation = says.above in
    let left : IsGuarded (with_generation (run.nodes t i) (run.engines e).generation) = record {
      outside = had.outside;
      within = within_higher (run.nodes t i).accepted (run.nodes t i).generation (run.engines e).generation (omega arith) had.within;
    } in
    subst (λ (n : VolumeNode). IsGuarded n) (sym says.new_is) left
guarded_after run t i (Accepts e k) new is all had says =
    let own : (run.nodes t i).generation ≡ (run.engines e).generation = says.under.1 in
    let upto : (run.engines e).generation ≤ (run.nodes t i).generation = omega arith in
    let left : IsGuarded (with_vote (run.nodes t i) (run.engines e).generation ((run.engines e).cuts k)) =
    record { outside = λ out. absurd (out says.under.0); within = upto } in
    subst (λ (n : VolumeNode). IsGuarded n) (sym says.new_is) left
guarded_after run t i (IsAdmitted e) new is all had says = entered_guarded run t e i (run.nodes t i) new is all says

next_guarded : (run : VolumeRun) (t i : ℕ) → FollowsProtocol run → AllGuarded run t → IsGuarded (run.nodes (suc t) i)
next_guarded run t i is all =
    let had : IsGuarded (run.nodes t i) = all t (omega arith) i in
    ⊎_elim
    (λ (rests : run.nodes (suc t) i ≡ run.nodes t i). as_before (run.nodes t i) (run.nodes (suc t) i) rests had)
    (λ says. guarded_after run t i (run.moves t) (run.nodes (suc t) i) is all had says.1)
    (goes_on run t i is)

all_guarded : (run : VolumeRun) → FollowsProtocol run → (t : ℕ) → AllGuarded run t
all_guarded run is zero s upto j =
    let here : zero ≡ s = omega arith in
    subst (λ (x : ℕ). IsGuarded (run.nodes x j)) here (nothing_guarded (run.nodes zero j) (is.begins j))
all_guarded run is (suc t) s upto j = ⊎_elim
    (λ (here : s ≡ suc t). subst (λ (x : ℕ). IsGuarded (run.nodes x j)) (sym here) (next_guarded run t j is (all_guarded run is t)))
    (λ (earlier : s ≤ t). all_guarded run is t s earlier j)
    (last_or_earlier s t upto)

pub guarded : (run : VolumeRun) (t i : ℕ) → FollowsProtocol run → IsGuarded (run.nodes t i)
guarded run t i is = all_guarded run is t t (omega arith) i
