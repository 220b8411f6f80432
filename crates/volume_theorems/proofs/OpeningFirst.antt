-- An engine whose own truncation is accepted late was not overtaken.
use Rattle.std.proofs.Common.{◌≡◌, ℕ, suc, ◌<◌, ◌≤◌, ◌⊎◌, ⊎_elim, sym, ◌∙◌, subst, ap, arith}
use Rattle.redo_core.specs.Data.{CutData}
use Rattle.volume_theorems.specs.Runs.{VolumeRun, MakesMove, Many}
use Rattle.volume_theorems.specs.Runs.Move.{Accepts}
use Rattle.volume_theorems.specs.Opening.{IsInQuorum, HasAsked, IsCutSent}
use Rattle.volume_theorems.specs.Proposing.{AdoptsPending, MakesOwn, MayPropose}
use Rattle.volume_theorems.specs.Protocol.{FollowsProtocol, IsVoting}
use Rattle.volume_theorems.specs.Stopping.{stopped}
use Rattle.volume_theorems.specs.ByMoment.{NoneOvertakes}
use Rattle.volume_theorems.proofs.Quorums.{quorums_meet}
use Rattle.volume_theorems.proofs.Guards.{gathered_before}
use Rattle.volume_theorems.proofs.Standing.{quorums_stand, one_of_generation}
use Rattle.volume_theorems.proofs.Seeing.{own_quorum}
use Rattle.volume_theorems.proofs.Choosing.{HasChosen, voted, proposer_asked, chosen_proposed, epochs_rise, later_agrees, opener_made}
use Rattle.volume_theorems.proofs.Lasting.{sent_proposed}
use Rattle.volume_theorems.proofs.Stopping.{stopped_follows, makes_is, sent_is}

module _ (run : VolumeRun) (e k u : ℕ) (c : CutData) (is : FollowsProtocol run) (opens : (run.engines e).opens ≡ k)
    (votes : Many run (λ i. (s : ℕ) × (u ≤ s) × MakesMove run s i (Accepts e k))) (sent : IsCutSent run u c) (from : k ≤ c.epoch) where
  chosen : HasChosen run e k
  chosen = (votes.0, votes.1, λ i among. let x = votes.2 i among in (x.0, x.2))

  own : (s : ℕ) × MayPropose run e k s
  own = chosen_proposed run e k is chosen

  other : (s : ℕ) × (s < u) × MayPropose run sent.0 c.epoch s
  other = sent_proposed run u c is sent

  -- an engine of a lower generation
  not_lower : (run.engines sent.0).generation < (run.engines e).generation → ⊥
  not_lower lower =
      let upto : c.epoch ≤ k = epochs_rise run sent.0 e c.epoch k other.0 own.0 is other.2 own.1 lower in
      let same : c.epoch ≡ k = omega arith in
      let its : HasChosen run sent.0 c.epoch = (sent.2.0, sent.2.1, λ i among. let x = sent.2.2 i among in (x.0, x.2)) in
      (opener_made run e k own.0 opens own.1).free
      (later_agrees run sent.0 e k own.0 is (subst (λ (n : ℕ). HasChosen run sent.0 n) same its) own.1 lower).pending

  -- one of a higher generation
  not_higher : (run.engines e).generation < (run.engines sent.0).generation → ⊥
  not_higher higher =
      let asked : HasAsked run sent.0 other.0 = proposer_asked run sent.0 c.epoch other.0 other.2 in
      let met = quorums_meet run (λ i. (s : ℕ) × (u ≤ s) × MakesMove run s i (Accepts e k)) (IsInQuorum run sent.0) is votes (own_quorum run sent.0 asked.gathered) in
      let vote = met.1 in
      let late : u ≤ vote.0 = vote.1 in
      let early : other.0 < u = other.1 in
      let gathered : (run.engines sent.0).gathered < other.0 = gathered_before run sent.0 other.0 met.0 asked met.2 in
      let says : IsVoting run vote.0 e k (run.nodes vote.0 met.0) (run.nodes (suc vote.0) met.0) = voted run e k vote.0 met.0 is vote.2 in
      let at : (run.nodes vote.0 met.0).generation ≡ (run.engines e).generation = says.under.1 in
      let stands : (run.engines sent.0).generation ≤ (run.nodes vote.0 met.0).generation =
      (quorums_stand run sent.0 other.0 met.0 is asked met.2).since vote.0 (omega arith) says.under.0 in
      omega arith

  -- the engine itself proposes none of a later epoch
  own_epoch : e ≡ sent.0 → c.epoch ≡ k
  own_epoch itself =
      let same : (run.engines sent.0).opens ≡ k = ap (λ (n : ℕ). (run.engines n).opens) (sym itself) ∙ opens in
      ⊎_elim
      (λ (adopts : AdoptsPending run sent.0 c.epoch other.2.best). let low : c.epoch < (run.engines sent.0).opens = adopts.below in absurd (omega arith))
      (λ (makes : MakesOwn run sent.0 c.epoch other.2.union other.2.best). makes.opens ∙ same)
      other.2.choice

  pub is_own : c ≡ (run.engines e).cuts k
  is_own = ⊎_elim
      (λ (lower : (run.engines sent.0).generation < (run.engines e).generation). absurd (not_lower lower))
      (λ rest. ⊎_elim
      (λ (higher : (run.engines e).generation < (run.engines sent.0).generation). absurd (not_higher higher))
      (λ (equal : (run.engines e).generation ≡ (run.engines sent.0).generation).
      let itself : e ≡ sent.0 =
      one_of_generation run e sent.0 own.0 other.0 is (proposer_asked run e k own.0 own.1) (proposer_asked run sent.0 c.epoch other.0 other.2) equal in
      sym sent.1 ∙ (ap (λ (n : ℕ). (run.engines n).cuts c.epoch) (sym itself) ∙ ap (λ (n : ℕ). (run.engines e).cuts n) (own_epoch itself)))
      rest)
      (let which : ((run.engines sent.0).generation < (run.engines e).generation)
      ⊎ (((run.engines e).generation < (run.engines sent.0).generation) ⊎ ((run.engines e).generation ≡ (run.engines sent.0).generation)) = grind arith in which)

pub none_overtakes : NoneOvertakes
none_overtakes run e k u t c is order opens votes sent from =
    let late : Many (stopped run t) (λ i. (s : ℕ) × (u ≤ s) × MakesMove (stopped run t) s i (Accepts e k)) = (
      votes.0,
      votes.1,
      λ i among. let x = votes.2 i among in (x.0, x.1, makes_is run t x.0 i (Accepts e k) x.2 x.3),
    ) in
    is_own (stopped run t) e k u c (stopped_follows run t is) opens late (sent_is run t u c order sent) from
