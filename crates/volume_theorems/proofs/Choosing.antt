-- Agreement on the truncation of each epoch.
use Rattle.std.proofs.Common.{◌≡◌, ℕ, suc, ◌<◌, ◌≤◌, ◌⊎◌, ⊎_elim, Option, Some, None, refl, sym, ◌∙◌, subst, ap, arith}
use Rattle.redo_core.specs.Data.{CutData}
use Rattle.volume_theorems.specs.Nodes.{Content, Vote, VolumeNode, IsOfGeneration, VoteUpTo}
use Rattle.volume_theorems.specs.Runs.{VolumeRun, MakesMove, Many}
use Rattle.volume_theorems.specs.Runs.Move.{Accepts}
use Rattle.volume_theorems.specs.Opening.{HasAsked, WasUnder, IsCutSent}
use Rattle.volume_theorems.specs.Proposing.{IsOfEpoch, AdoptsPending, MakesOwn, MayPropose}
use Rattle.volume_theorems.specs.Protocol.{FollowsProtocol, IsVoting}
use Rattle.volume_theorems.specs.Choosing.{IsChosen, OneTruncation, OnlyChosen, HasOpened, OneWriter}
use Rattle.volume_theorems.proofs.Quorums.{quorums_meet}
use Rattle.volume_theorems.proofs.Orders.{by_time, vote_itself, IsVoteWithin}
use Rattle.volume_theorems.proofs.Births.{made}
use Rattle.volume_theorems.proofs.Guards.{asked_by_union, asked_later, answers_count, fenced_before, raised, guarded}
use Rattle.volume_theorems.proofs.Standing.{one_of_generation}
use Rattle.volume_theorems.proofs.Seeing.{votes_are_seen, epochs_are_seen}
use Rattle.volume_theorems.proofs.Proposing.{WasProposed, IsFromProposal, proposed_later, votes_proposed, all_sent}

-- ---- one engine
-- a quorum has accepted the engine's truncation of the epoch
abbrev pub HasChosen : VolumeRun → ℕ → ℕ → Type 0
HasChosen run e k = Many run (λ i. (s : ℕ) × MakesMove run s i (Accepts e k))

abbrev pub vote_for : VolumeRun → ℕ → ℕ → Vote
vote_for run e k = record { generation = (run.engines e).generation; cut = (run.engines e).cuts k }

pub voted : (run : VolumeRun) (e k s i : ℕ) → FollowsProtocol run → MakesMove run s i (Accepts e k)
    → IsVoting run s e k (run.nodes s i) (run.nodes (suc s) i)
voted run e k s i is makes = made run s i (Accepts e k) is makes

pub proposer_asked : (run : VolumeRun) (e k t : ℕ) → MayPropose run e k t → HasAsked run e t
proposer_asked run e k t p = asked_by_union run e t p.union p.unites

-- what is chosen was proposed
pub chosen_proposed : (run : VolumeRun) (e k : ℕ) → FollowsProtocol run → HasChosen run e k → (s : ℕ) × MayPropose run e k s
chosen_proposed run e k is chosen =
    let Votes : ℕ → Type 0 = λ i. (s : ℕ) × MakesMove run s i (Accepts e k) in
    let met = quorums_meet run Votes Votes is chosen chosen in
    (met.1.0, (voted run e k met.1.0 met.0 is met.1.1).proposed)

vote_under : (run : VolumeRun) (e k s i : ℕ) → FollowsProtocol run → MakesMove run s i (Accepts e k)
    → WasUnder run e (λ n. VoteUpTo (Some (vote_for run e k)) n.accepted) i
vote_under run e k s i is makes =
    let says : IsVoting run s e k (run.nodes s i) (run.nodes (suc s) i) = voted run e k s i is makes in
    let votes : (run.nodes (suc s) i).accepted ≡ Some (vote_for run e k) = ap (λ (n : VolumeNode). n.accepted) says.new_is in
    let under : IsOfGeneration (run.nodes (suc s) i) (run.engines e).generation = (
      ap (λ (n : VolumeNode). n.is_member) says.new_is ∙ says.under.0,
      ap (λ (n : VolumeNode). n.generation) says.new_is ∙ says.under.1,
    ) in (
      suc s,
      answers_count run e (suc s) i (record { asked = asked_later run e s (suc s) (omega arith) (proposer_asked run e k s says.proposed); under = under }),
      subst (λ (v : Option Vote). VoteUpTo (Some (vote_for run e k)) v) (sym votes) (vote_itself (Some (vote_for run e k))),
    )

chosen_under : (run : VolumeRun) (e k : ℕ) → FollowsProtocol run → HasChosen run e k
    → Many run (WasUnder run e (λ n. VoteUpTo (Some (vote_for run e k)) n.accepted))
chosen_under run e k is chosen =
    (chosen.0, chosen.1, λ i among. let x = chosen.2 i among in vote_under run e k x.0 i is x.1)

-- ---- two engines
reported_under : (run : VolumeRun) (e k t : ℕ) → FollowsProtocol run → (p : MayPropose run e k t)
    → Many run (WasUnder run e (λ n. p.union.epoch ≤ n.content.epoch))
reported_under run e k t is p = (
  p.known.0,
  p.known.1,
  λ i among.
      let x = p.known.2 i among in
      let at : (run.nodes x.0 i).content.epoch ≡ p.union.epoch = x.3 in
      (x.0, answers_count run e x.0 i x.2, omega arith),
)

-- an engine of a higher generation proposes no truncation of a lower epoch
pub epochs_rise : (run : VolumeRun) (e f k l s t : ℕ) → FollowsProtocol run → MayPropose run e k s → MayPropose run f l t
    → (run.engines e).generation < (run.engines f).generation → k ≤ l
epochs_rise run e f k l s t is p q higher =
    let one : k ≡ suc p.union.epoch = p.next in
    let two : l ≡ suc q.union.epoch = q.next in
    let seen : p.union.epoch ≤ q.union.epoch =
    epochs_are_seen run e f p.union.epoch q.union t is (reported_under run e k s is p) q.unites higher in
    omega arith

-- the vote that an engine finds is of a generation below its own
abbrev pub IsVoteBelow : Option Vote → ℕ → Type 0
IsVoteBelow None generation = Unit {0}
IsVoteBelow (Some v) generation = v.generation < generation

below_within : (v : Option Vote) (low high : ℕ) → low < high → IsVoteWithin v low → IsVoteBelow v high
below_within None low high h within = tt
below_within (Some v) low high h within = omega arith

-- where the best vote of a proposer comes from
pub record IsFound (run : VolumeRun) (f t : ℕ) (best : Option Vote) : Type 0 where
  pub below : IsVoteBelow best (run.engines f).generation
  pub proposed : IsFromProposal run t best

pub best_found : (run : VolumeRun) (f k t : ℕ) → FollowsProtocol run → (p : MayPropose run f k t) → IsFound run f t p.best
best_found run f k t is p =
    let one = p.greatest.of_one in
    let asked : HasAsked run f t = proposer_asked run f k t p in
    let y : ℕ = (run.engines f).fenced one.0 in
    let early : y < t = fenced_before run f t one.0 asked one.1 in
    let rises = raised run f one.0 is asked.gathered one.1 in
    let had : IsFound run f t (run.nodes y one.0).accepted = record {
      below = below_within (run.nodes y one.0).accepted (run.nodes y one.0).generation (run.engines f).generation rises.above
          (guarded run y one.0 is).within;
      proposed = proposed_later run y t (run.nodes y one.0).accepted (omega arith) (votes_proposed run y one.0 is);
    } in
    subst (λ (v : Option Vote). IsFound run f t v) (sym one.2) had

-- the later proposer found the truncation pending, and proposes it
pub record Agrees (run : VolumeRun) (e f k : ℕ) (best : Option Vote) : Type 0 where
  pub same : (run.engines f).cuts k ≡ (run.engines e).cuts k
  pub pending : IsOfEpoch best k

-- the vote is for the truncation that was chosen
pub record IsForChosen (run : VolumeRun) (e k : ℕ) (v : Vote) : Type 0 where
  pub same : v.cut ≡ (run.engines e).cuts k
  pub of_epoch : v.cut.epoch ≡ k

-- each proposer of the generation agrees, if it is of a higher one than the engine
abbrev pub AllAgree : VolumeRun → ℕ → ℕ → ℕ → Type 0
AllAgree run e k n =
    (f t : ℕ) (p : MayPropose run f k t) → (run.engines f).generation ≡ n → (run.engines e).generation < n → Agrees run e f k p.best

for_by_cut : (run : VolumeRun) (e f k : ℕ) (v : Vote) → (run.engines f).cuts v.cut.epoch ≡ v.cut → v.cut.epoch ≡ k
    → (run.engines f).cuts k ≡ (run.engines e).cuts k → IsForChosen run e k v
for_by_cut run e f k v cut at same =
    record { same = sym cut ∙ ap (λ (x : ℕ). (run.engines f).cuts x) at ∙ same; of_epoch = at }

vote_for_chosen : (run : VolumeRun) (e f k n s t : ℕ) (v : Vote) → FollowsProtocol run → MayPropose run e k s → (p : MayPropose run f k t)
    → (run.engines f).generation ≡ n → ((x : ℕ) → x < n → AllAgree run e k x)
    → VoteUpTo (Some (vote_for run e k)) (Some v) → IsFound run f t (Some v) → IsForChosen run e k v
vote_for_chosen run e f k n s t v is own p now earlier upto found =
    let w : WasProposed run t v = found.proposed in
    let gen : (run.engines w.engine).generation ≡ v.generation = w.generation in
    let low : v.generation < (run.engines f).generation = found.below in
    let up : v.cut.epoch ≤ k = epochs_rise run w.engine f v.cut.epoch k w.moment t is w.proposed p (omega arith) in
    ⊎_elim
    (λ (less : (run.engines e).generation < v.generation).
    let higher : (run.engines e).generation < (run.engines w.engine).generation = omega arith in
    let down : k ≤ v.cut.epoch = epochs_rise run e w.engine k v.cut.epoch s w.moment is own w.proposed higher in
    let at : v.cut.epoch ≡ k = omega arith in
    let agrees = earlier (run.engines w.engine).generation (omega arith) w.engine w.moment
    (subst (λ (x : ℕ). MayPropose run w.engine x w.moment) at w.proposed) refl higher in
    for_by_cut run e w.engine k v w.cut at agrees.same)
    (λ (equal : ((run.engines e).generation ≡ v.generation) × (((run.engines e).cuts k).epoch ≤ v.cut.epoch)).
    let both : (run.engines e).generation ≡ (run.engines w.engine).generation = equal.0 ∙ sym gen in
    let itself : e ≡ w.engine =
    one_of_generation run e w.engine s w.moment is (proposer_asked run e k s own) (proposer_asked run w.engine v.cut.epoch w.moment w.proposed) both in
    let epoch : ((run.engines e).cuts k).epoch ≡ k = own.of_epoch in
    let order : ((run.engines e).cuts k).epoch ≤ v.cut.epoch = equal.1 in
    let at : v.cut.epoch ≡ k = omega arith in
    for_by_cut run e w.engine k v w.cut at (ap (λ (x : ℕ). (run.engines x).cuts k) (sym itself)))
    upto

agrees_by : (run : VolumeRun) (e f k : ℕ) (v : Vote) (u : Content) → IsForChosen run e k v
    → AdoptsPending run f k (Some v) ⊎ MakesOwn run f k u (Some v) → Agrees run e f k (Some v)
agrees_by run e f k v u is choice = ⊎_elim
    (λ (adopts : AdoptsPending run f k (Some v)). record { same = sym adopts.pending ∙ is.same; pending = is.of_epoch })
    (λ (own : MakesOwn run f k u (Some v)). absurd (own.free is.of_epoch))
    choice

agrees_on : (run : VolumeRun) (e f k n s t : ℕ) (best : Option Vote) (u : Content) → FollowsProtocol run → MayPropose run e k s → MayPropose run f k t
    → (run.engines f).generation ≡ n → ((x : ℕ) → x < n → AllAgree run e k x)
    → VoteUpTo (Some (vote_for run e k)) best → IsFound run f t best → AdoptsPending run f k best ⊎ MakesOwn run f k u best → Agrees run e f k best
agrees_on run e f k n s t None u is own p now earlier upto found choice = absurd upto
agrees_on run e f k n s t (Some v) u is own p now earlier upto found choice =
    agrees_by run e f k v u (vote_for_chosen run e f k n s t v is own p now earlier upto found) choice

all_agree : (run : VolumeRun) (e k : ℕ) → FollowsProtocol run → HasChosen run e k → (n : ℕ) → AllAgree run e k n
all_agree run e k is chosen = by_time (AllAgree run e k) (λ n earlier f t p now higher.
    let own = chosen_proposed run e k is chosen in
    let above : (run.engines e).generation < (run.engines f).generation = omega arith in
    let seen : VoteUpTo (Some (vote_for run e k)) p.best =
    votes_are_seen run e f (vote_for run e k) p.best t is (chosen_under run e k is chosen) (proposer_asked run f k t p) above p.greatest in
    agrees_on run e f k n own.0 t p.best p.union is own.1 p now earlier seen (best_found run f k t is p) p.choice)

-- Where a truncation is chosen, each engine of a higher generation that proposes one for its epoch found it pending, and proposes it.
pub later_agrees : (run : VolumeRun) (e f k t : ℕ) → FollowsProtocol run → HasChosen run e k → (p : MayPropose run f k t)
    → (run.engines e).generation < (run.engines f).generation → Agrees run e f k p.best
later_agrees run e f k t is chosen p higher = all_agree run e k is chosen (run.engines f).generation f t p refl higher

-- ---- one truncation
same_chosen : (run : VolumeRun) (e f k : ℕ) → FollowsProtocol run → HasChosen run e k → HasChosen run f k
    → (run.engines e).generation ≤ (run.engines f).generation → (run.engines e).cuts k ≡ (run.engines f).cuts k
same_chosen run e f k is one other order =
    let p = chosen_proposed run e k is one in
    let q = chosen_proposed run f k is other in
    ⊎_elim
    (λ (equal : (run.engines e).generation ≡ (run.engines f).generation).
    ap (λ (x : ℕ). (run.engines x).cuts k)
    (one_of_generation run e f p.0 q.0 is (proposer_asked run e k p.0 p.1) (proposer_asked run f k q.0 q.1) equal))
    (λ (higher : (run.engines e).generation < (run.engines f).generation). sym (later_agrees run e f k q.0 is one q.1 higher).same)
    (let which : ((run.engines e).generation ≡ (run.engines f).generation) ⊎ ((run.engines e).generation < (run.engines f).generation) = grind arith in which)

pub one_chosen : (run : VolumeRun) (e f k : ℕ) → FollowsProtocol run → HasChosen run e k → HasChosen run f k
    → (run.engines e).cuts k ≡ (run.engines f).cuts k
one_chosen run e f k is one other = ⊎_elim
    (λ (order : (run.engines e).generation ≤ (run.engines f).generation). same_chosen run e f k is one other order)
    (λ (order : (run.engines f).generation ≤ (run.engines e).generation). sym (same_chosen run f e k is other one order))
    (let which : ((run.engines e).generation ≤ (run.engines f).generation) ⊎ ((run.engines f).generation ≤ (run.engines e).generation) = grind arith in which)

-- one engine has proposed what was chosen under a generation
pub record IsChosenBy (run : VolumeRun) (generation : ℕ) (c : CutData) : Type 0 where
  pub engine : ℕ
  pub generation_is : (run.engines engine).generation ≡ generation
  pub cut : (run.engines engine).cuts c.epoch ≡ c
  pub chosen : HasChosen run engine c.epoch

pub chosen_by : (run : VolumeRun) (generation : ℕ) (c : CutData) → FollowsProtocol run → IsChosen run generation c → IsChosenBy run generation c
chosen_by run generation c is chosen =
    let Votes : ℕ → Type 0 = λ i. (s e : ℕ) × MakesMove run s i (Accepts e c.epoch)
    × ((run.engines e).generation ≡ generation) × ((run.engines e).cuts c.epoch ≡ c) in
    let met = quorums_meet run Votes Votes is chosen chosen in
    let first = met.1 in
    let e : ℕ = first.1 in
    let asked : HasAsked run e first.0 = proposer_asked run e c.epoch first.0 (voted run e c.epoch first.0 met.0 is first.2).proposed in
    record {
      engine = e;
      generation_is = first.3;
      cut = first.4;
      chosen = (
        chosen.0,
        chosen.1,
        λ i among.
            let x = chosen.2 i among in
            let its : HasAsked run x.1 x.0 = proposer_asked run x.1 c.epoch x.0 (voted run x.1 c.epoch x.0 i is x.2).proposed in
            let itself : x.1 ≡ e = one_of_generation run x.1 e x.0 first.0 is its asked (x.3 ∙ sym first.3) in
            (x.0, subst (λ (y : ℕ). MakesMove run x.0 i (Accepts y c.epoch)) itself x.2),
      );
    }

pub one_truncation : OneTruncation
one_truncation run g h c d is one other same =
    let a : IsChosenBy run g c = chosen_by run g c is one in
    let b : IsChosenBy run h d = chosen_by run h d is other in
    let again : HasChosen run b.engine c.epoch = subst (λ (k : ℕ). HasChosen run b.engine k) (sym same) b.chosen in
    sym a.cut ∙ one_chosen run a.engine b.engine c.epoch is a.chosen again ∙ ap (λ (k : ℕ). (run.engines b.engine).cuts k) same ∙ b.cut

pub sent_chosen : (run : VolumeRun) (t : ℕ) (c : CutData) → IsCutSent run t c → (g : ℕ) × IsChosen run g c
sent_chosen run t c sent = (
  (run.engines sent.0).generation,
  (sent.2.0, sent.2.1, λ i among. let x = sent.2.2 i among in (x.0, sent.0, x.2, refl, sent.1)),
)

pub only_chosen : OnlyChosen
only_chosen run t i c is inside = sent_chosen run t c (all_sent run t is i c inside)

-- ---- one writer
pub opener_made : (run : VolumeRun) (f k t : ℕ) → (run.engines f).opens ≡ k → (p : MayPropose run f k t) → MakesOwn run f k p.union p.best
opener_made run f k t own p = ⊎_elim
    (λ (adopts : AdoptsPending run f k p.best). let lower : k < (run.engines f).opens = adopts.below in absurd (omega arith))
    (λ (makes : MakesOwn run f k p.union p.best). makes)
    p.choice

not_both : (run : VolumeRun) (e f k : ℕ) → FollowsProtocol run → HasOpened run e k → HasOpened run f k
    → (run.engines e).generation < (run.engines f).generation → ⊥
not_both run e f k is one other higher =
    let q = chosen_proposed run f k is other.accepted in
    (opener_made run f k q.0 other.own q.1).free (later_agrees run e f k q.0 is one.accepted q.1 higher).pending

pub one_writer : OneWriter
one_writer run e f k is one other =
    let p = chosen_proposed run e k is one.accepted in
    let q = chosen_proposed run f k is other.accepted in
    ⊎_elim
    (λ (equal : (run.engines e).generation ≡ (run.engines f).generation).
    one_of_generation run e f p.0 q.0 is (proposer_asked run e k p.0 p.1) (proposer_asked run f k q.0 q.1) equal)
    (λ apart. ⊎_elim
    (λ (higher : (run.engines e).generation < (run.engines f).generation). absurd (not_both run e f k is one other higher))
    (λ (lower : (run.engines f).generation < (run.engines e).generation). absurd (not_both run f e k is other one lower))
    apart)
    (let which : ((run.engines e).generation ≡ (run.engines f).generation)
    ⊎ (((run.engines e).generation < (run.engines f).generation) ⊎ ((run.engines f).generation < (run.engines e).generation)) = grind arith in which)
