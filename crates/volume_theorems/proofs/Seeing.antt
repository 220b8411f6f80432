-- What a quorum had under one generation is found by each engine of a higher one.
use Rattle.std.proofs.Common.{◌≡◌, ◌≢◌, ℕ, suc, ◌<◌, ◌≤◌, ◌⊎◌, ⊎_elim, Option, Some, refl, sym, ◌∙◌, subst, ap, arith, IsTrue}
use Rattle.volume_theorems.specs.Nodes.{Content, Vote, VolumeNode, VoteUpTo, GrowsTo}
use Rattle.volume_theorems.specs.Runs.{VolumeRun, Move, MakesMove, IsOneBirth, Many}
use Rattle.volume_theorems.specs.Runs.Move.{Rests, ComesFresh, Learns, IsReplaced, IsCreated, IsFenced, Accepts, IsAdmitted}
use Rattle.volume_theorems.specs.Opening.{IsInQuorum, HasGathered, HasAsked, CountsUnder, IsUnion}
use Rattle.volume_theorems.specs.Protocol.{FollowsProtocol, IsFirstMember, IsEntering}
use Rattle.volume_theorems.specs.Lives.{IsLaterNode}
use Rattle.volume_theorems.specs.Standing.{StandsFrom}
use Rattle.volume_theorems.specs.Seeing.{VotesAreSeen, EpochsAreSeen}
use Rattle.volume_theorems.proofs.Quorums.{quorums_meet}
use Rattle.volume_theorems.proofs.Orders.{by_time, vote_then}
use Rattle.volume_theorems.proofs.Births.{made, no_return, between}
use Rattle.volume_theorems.proofs.Guards.{asked_by_union, gathered_before, raised}
use Rattle.volume_theorems.proofs.Lives.{one_birth, next_later, kept_in_birth}
use Rattle.volume_theorems.proofs.Standing.{fence_leaves, quorums_stand, one_of_generation, rises_since}
use Rattle.volume_theorems.proofs.Entering.{Enters, HasEntered, has_entered}

-- What a member has at a moment, it has as long as it is in that birth; and so has each node that is admitted by an engine which found it at
-- a node of its quorum, when that was fenced.
pub record IsHandedOn (run : VolumeRun) (Has : ℕ → ℕ → Type 0) : Type 0 where
  pub keeps : (t i : ℕ) → IsOneBirth run i t (suc t) → IsTrue (run.nodes t i).is_member → Has t i → Has (suc t) i
  pub passes : (t i e j : ℕ) → MakesMove run t i (IsAdmitted e) → IsInQuorum run e j → Has ((run.engines e).fenced j) j → Has (suc t) i

-- at some moment at which the node counts for the engine, it had it
abbrev pub HadUnder : VolumeRun → ℕ → (ℕ → ℕ → Type 0) → ℕ → Type 0
HadUnder run e Has i = (t : ℕ) × CountsUnder run e t i × Has t i

-- the engine found it at a node of its quorum
abbrev pub Finds : VolumeRun → ℕ → (ℕ → ℕ → Type 0) → Type 0
Finds run f Has = (j : ℕ) × IsInQuorum run f j × Has ((run.engines f).fenced j) j

pub own_quorum : (run : VolumeRun) (e : ℕ) → HasGathered run e → Many run (IsInQuorum run e)
own_quorum run e has = ((run.engines e).quorum, has.many, λ i among. among)

pub some_among : (run : VolumeRun) (e : ℕ) → FollowsProtocol run → HasGathered run e → (i : ℕ) × IsInQuorum run e i
some_among run e is has =
    let met = quorums_meet run (IsInQuorum run e) (IsInQuorum run e) is (own_quorum run e has) (own_quorum run e has) in
    (met.0, met.1)

-- ---- a node of both quorums, where it had it in another birth than the one that was fenced
pub record IsElsewhere (run : VolumeRun) (e j x y : ℕ) : Type 0 where
  pub asked : HasAsked run e x
  pub first : x < y
  pub apart : ¬ (IsOneBirth run j x y)

-- no birth that had begun by then is the later one
begun_later : (run : VolumeRun) (e j x y s : ℕ) → FollowsProtocol run → IsElsewhere run e j x y → IsOneBirth run j s y → x < s
begun_later run e j x y s is w same =
    let order : x < y = w.first in
    ⊎_elim
    (λ (later : x < s). later)
    (λ (earlier : s ≤ x). absurd (w.apart (between run j s x y is earlier (omega arith) same)))
    (let which : (x < s) ⊎ (s ≤ x) = grind arith in which)

-- the engine that has admitted the node since is of a higher generation
admitted_higher : (run : VolumeRun) (e j x y a f : ℕ) (old new : VolumeNode) → FollowsProtocol run → IsElsewhere run e j x y
    → IsOneBirth run j a y → IsEntering run a f j (run.nodes a j) new → (run.engines e).generation < (run.engines f).generation
admitted_higher run e j x y a f old new is w same says =
    let heard = says.admits.heard in
    let asked : HasAsked run f a = asked_by_union run f a says.admits.union says.admits.unites in
    let later : x < heard.0 = begun_later run e j x y heard.0 is w (heard.3 ∙ same) in
    let early : heard.0 < (run.engines f).gathered = heard.1 in
    let one = some_among run e is w.asked.gathered in
    let before : (run.engines e).gathered < x = gathered_before run e x one.0 w.asked one.1 in
    let upto : (run.engines e).generation ≤ (run.engines f).generation = rises_since run e f x a is w.asked asked (omega arith) in
    ⊎_elim
    (λ (lower : (run.engines e).generation < (run.engines f).generation). lower)
    (λ (equal : (run.engines e).generation ≡ (run.engines f).generation).
    let itself : e ≡ f = one_of_generation run e f x a is w.asked asked equal in
    let moments : (run.engines e).gathered ≡ (run.engines f).gathered = ap (λ (n : ℕ). (run.engines n).gathered) itself in
    absurd (omega arith))
    (let which : ((run.engines e).generation < (run.engines f).generation) ⊎ ((run.engines e).generation ≡ (run.engines f).generation) = grind arith in which)

-- each engine that had gathered its quorum before the moment has found it
abbrev pub AllFind : VolumeRun → ℕ → (ℕ → ℕ → Type 0) → ℕ → Type 0
AllFind run e Has n =
    (f t : ℕ) → (run.engines f).gathered ≡ n → HasAsked run f t → (run.engines e).generation < (run.engines f).generation → Finds run f Has

created_apart : (run : VolumeRun) (e j x y a : ℕ) (new : VolumeNode) → FollowsProtocol run → IsElsewhere run e j x y → IsOneBirth run j a y
    → IsFirstMember run j (run.nodes a j) new → ⊥
created_apart run e j x y a new is w same says =
    let zeroth : x < 0 = begun_later run e j x y 0 is w (sym says.birth ∙ same) in omega arith

module _ (run : VolumeRun) (e : ℕ) (Has : ℕ → ℕ → Type 0) (is : FollowsProtocol run) (handed : IsHandedOn run Has) where
  had_in_birth : (j s t : ℕ) → s ≤ t → IsOneBirth run j s t → IsTrue (run.nodes s j).is_member → Has s j → Has t j
  had_in_birth j s t upto same member had =
      let both = kept_in_birth run j s (λ (x : ℕ). IsTrue (run.nodes x j).is_member × Has x j) is (member, had)
      (λ (x : ℕ) after kept has. ((next_later run x j is kept).member has.0, handed.keeps x j kept has.0 has.1)) t upto same in
      both.1

  had_since : (j x y a n : ℕ) (m : Move) → IsElsewhere run e j x y → ((s : ℕ) → s < n → AllFind run e Has s) → a < y → y < n
      → IsOneBirth run j a y → IsOneBirth run j (suc a) y → MakesMove run a j m → Enters m → Has y j
  had_since j x y a n IsCreated w earlier first last same since makes enters =
      absurd (created_apart run e j x y a (run.nodes (suc a) j) is w same (made run a j IsCreated is makes))
  had_since j x y a n (IsAdmitted f) w earlier first last same since makes enters =
      let says : IsEntering run a f j (run.nodes a j) (run.nodes (suc a) j) = made run a j (IsAdmitted f) is makes in
      let higher : (run.engines e).generation < (run.engines f).generation =
      admitted_higher run e j x y a f (run.nodes a j) (run.nodes (suc a) j) is w same says in
      let asked : HasAsked run f a = asked_by_union run f a says.admits.union says.admits.unites in
      let one = says.admits.greatest.of_one in
      let early : (run.engines f).gathered < a = gathered_before run f a one.0 asked one.1 in
      let found : Finds run f Has = earlier (run.engines f).gathered (omega arith) f a refl asked higher in
      had_in_birth j (suc a) y first since (ap (λ (n : VolumeNode). n.is_member) says.new_is) (handed.passes a j f found.0 makes found.1 found.2)
  had_since j x y a n Rests w earlier first last same since makes enters = absurd enters
  had_since j x y a n ComesFresh w earlier first last same since makes enters = absurd enters
  had_since j x y a n IsReplaced w earlier first last same since makes enters = absurd enters
  had_since j x y a n Learns w earlier first last same since makes enters = absurd enters
  had_since j x y a n (IsFenced f) w earlier first last same since makes enters = absurd enters
  had_since j x y a n (Accepts f k) w earlier first last same since makes enters = absurd enters

  had_when_fenced : (f t j x n : ℕ) → ((s : ℕ) → s < n → AllFind run e Has s) → (run.engines f).gathered ≡ n → HasAsked run f t → IsInQuorum run f j
      → (run.engines e).generation < (run.engines f).generation → CountsUnder run e x j → Has x j → Has ((run.engines f).fenced j) j
  had_when_fenced f t j x n earlier now asked among higher counts had =
      let y : ℕ = (run.engines f).fenced j in
      let g : ℕ = (run.engines f).gathered in
      let stands : StandsFrom run f j = quorums_stand run f t j is asked among in
      let rises = raised run f j is asked.gathered among in
      let left = fence_leaves run f j y rises in
      let before : y < g = asked.gathered.before j among in
      let low : (run.nodes x j).generation ≤ (run.engines e).generation = counts.upto in
      let early : x < g =
      ⊎_elim
      (λ (it : x < g). it)
      (λ (after : g ≤ x). let upto : (run.engines f).generation ≤ (run.nodes x j).generation = stands.since x after counts.member in absurd (omega arith))
      (let which : (x < g) ⊎ (g ≤ x) = grind arith in which) in
      ⊎_elim
      (λ (same : IsOneBirth run j x y).
      let order : x ≤ y =
      ⊎_elim
      (λ (it : x ≤ y). it)
      (λ (after : y < x).
      let later : IsLaterNode (run.nodes (suc y) j) (run.nodes x j) = one_birth run j (suc y) x is after (sym left.birth ∙ sym same) in
      let upto : (run.nodes (suc y) j).generation ≤ (run.nodes x j).generation = later.generation left.under.0 in
      let at : (run.nodes (suc y) j).generation ≡ (run.engines f).generation = left.under.1 in absurd (omega arith))
      (let which : (x ≤ y) ⊎ (y < x) = grind arith in which) in
      had_in_birth j x y order same counts.member had)
      (λ (apart : ¬ (IsOneBirth run j x y)).
      let order : x < y =
      ⊎_elim
      (λ (it : x < y). it)
      (λ (after : y ≤ x). absurd (apart (sym (no_return run j y x g is after (omega arith) stands.birth))))
      (let which : (x < y) ⊎ (y ≤ x) = grind arith in which) in
      let entry : HasEntered run j y = has_entered run j y is rises.member in
      let w : IsElsewhere run e j x y = record { asked = counts.asked; first = order; apart = apart } in
      had_since j x y entry.moment n (run.moves entry.moment) w earlier entry.before (omega arith) (entry.same ∙ entry.since) entry.since entry.makes entry.enters)
      (let which : ((run.nodes x j).birth ≡ (run.nodes y j).birth) ⊎ ((run.nodes x j).birth ≢ (run.nodes y j).birth) = grind arith in which)

  all_find : Many run (HadUnder run e Has) → (n : ℕ) → AllFind run e Has n
  all_find many = by_time (AllFind run e Has) (λ n earlier f t now asked higher.
      let met = quorums_meet run (HadUnder run e Has) (IsInQuorum run f) is many (own_quorum run f asked.gathered) in
      let had = met.1 in
      (met.0, met.2, had_when_fenced f t met.0 had.0 n earlier now asked met.2 higher had.1 had.2))

  -- What a quorum had under an engine, each engine of a higher generation finds.
  pub quorums_see : (f t : ℕ) → Many run (HadUnder run e Has) → HasAsked run f t → (run.engines e).generation < (run.engines f).generation
      → Finds run f Has
  quorums_see f t many asked higher = all_find many (run.engines f).gathered f t refl asked higher

-- ---- votes
votes_handed : (run : VolumeRun) (vote : Vote) → FollowsProtocol run → IsHandedOn run (λ s i. VoteUpTo (Some vote) (run.nodes s i).accepted)
votes_handed run vote is = record {
  keeps = λ t i same member had.
      vote_then (Some vote) (run.nodes t i).accepted (run.nodes (suc t) i).accepted had (next_later run t i is same).accepted;
  passes = λ t i e j makes among had.
      let says : IsEntering run t e i (run.nodes t i) (run.nodes (suc t) i) = made run t i (IsAdmitted e) is makes in
      let votes : (run.nodes (suc t) i).accepted ≡ says.vote = ap (λ (n : VolumeNode). n.accepted) says.new_is in
      subst (λ (v : Option Vote). VoteUpTo (Some vote) v) (sym votes)
      (vote_then (Some vote) (run.nodes ((run.engines e).fenced j) j).accepted says.vote had (says.admits.greatest.above j among));
}

pub votes_are_seen : VotesAreSeen
votes_are_seen run e f vote best t is many asked higher greatest =
    let found = quorums_see run e (λ s i. VoteUpTo (Some vote) (run.nodes s i).accepted) is (votes_handed run vote is) f t many asked higher in
    vote_then (Some vote) (run.nodes ((run.engines f).fenced found.0) found.0).accepted best found.2 (greatest.above found.0 found.1)

-- ---- contents
-- what a node had when it was fenced, and more, is in the union
pub fenced_in_union : (run : VolumeRun) (e t j : ℕ) (u : Content) → FollowsProtocol run → IsUnion run e t u → IsInQuorum run e j
    → (p : ℕ) × (p < t) × GrowsTo (run.nodes p j).content u × GrowsTo (run.nodes ((run.engines e).fenced j) j).content (run.nodes p j).content
fenced_in_union run e t j u is union among =
    let of = union.of_all j among in
    let before : (run.engines e).fenced j < (run.engines e).gathered = union.gathered.before j among in
    let after : (run.engines e).gathered ≤ of.0 = of.2.after in
    let later : IsLaterNode (run.nodes ((run.engines e).fenced j) j) (run.nodes of.0 j) =
    one_birth run j ((run.engines e).fenced j) of.0 is (omega arith) of.2.birth in
    (of.0, of.1, of.3, later.content (raised run e j is union.gathered among).member)

epoch_in_union : (run : VolumeRun) (e t j epoch : ℕ) (u : Content) → FollowsProtocol run → IsUnion run e t u → IsInQuorum run e j
    → epoch ≤ (run.nodes ((run.engines e).fenced j) j).content.epoch → epoch ≤ u.epoch
epoch_in_union run e t j epoch u is union among had =
    let of = fenced_in_union run e t j u is union among in
    let one : (run.nodes ((run.engines e).fenced j) j).content.epoch ≤ (run.nodes of.0 j).content.epoch = of.3.epoch in
    let two : (run.nodes of.0 j).content.epoch ≤ u.epoch = of.2.epoch in
    omega arith

epochs_handed : (run : VolumeRun) (epoch : ℕ) → FollowsProtocol run → IsHandedOn run (λ s i. epoch ≤ (run.nodes s i).content.epoch)
epochs_handed run epoch is = record {
  keeps = λ t i same member (had : epoch ≤ (run.nodes t i).content.epoch).
      let more : (run.nodes t i).content.epoch ≤ (run.nodes (suc t) i).content.epoch = ((next_later run t i is same).content member).epoch in
      omega arith;
  passes = λ t i e j makes among had.
      let says : IsEntering run t e i (run.nodes t i) (run.nodes (suc t) i) = made run t i (IsAdmitted e) is makes in
      let content : (run.nodes (suc t) i).content.epoch ≡ (run.nodes t i).content.epoch = ap (λ (n : VolumeNode). n.content.epoch) says.new_is in
      let far : (run.nodes t i).content.epoch ≡ says.admits.union.epoch = says.admits.epoch in
      let here : epoch ≤ says.admits.union.epoch = epoch_in_union run e t j epoch says.admits.union is says.admits.unites among had in
      omega arith;
}

pub epochs_are_seen : EpochsAreSeen
epochs_are_seen run e f epoch union t is many unites higher =
    let asked : HasAsked run f t = asked_by_union run f t union unites in
    let found = quorums_see run e (λ s i. epoch ≤ (run.nodes s i).content.epoch) is (epochs_handed run epoch is) f t many asked higher in
    epoch_in_union run f t found.0 epoch union is unites found.1 found.2
