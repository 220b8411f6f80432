-- What was durable stays so.
use Rattle.std.proofs.Common.{◌≡◌, ℕ, suc, ◌<◌, ◌≤◌, ◌⊎◌, ⊎_elim, Option, Some, None, refl, sym, ◌∙◌, subst, ap, arith}
use Rattle.std.specs.List.{Contains}
use Rattle.redo_core.specs.Data.{CutData}
use Rattle.volume_theorems.specs.Nodes.{Content, Vote, VolumeNode, GrowsTo}
use Rattle.volume_theorems.specs.Runs.{VolumeRun, MakesMove, Many}
use Rattle.volume_theorems.specs.Runs.Move.{Accepts, IsAdmitted}
use Rattle.volume_theorems.specs.Opening.{IsInQuorum, HasAsked, WasUnder, IsCutSent, IsUnion}
use Rattle.volume_theorems.specs.Proposing.{AdoptsPending, MakesOwn, MayPropose}
use Rattle.volume_theorems.specs.Protocol.{FollowsProtocol, IsEntering}
use Rattle.volume_theorems.specs.Choosing.{IsChosen, HasOpened}
use Rattle.volume_theorems.specs.Lasting.{IsReported, DurableLasts, OpensAbove, LoRises, LoIsPoint}
use Rattle.volume_theorems.proofs.Quorums.{quorums_meet}
use Rattle.volume_theorems.proofs.Orders.{by_time}
use Rattle.volume_theorems.proofs.Births.{made}
use Rattle.volume_theorems.proofs.Guards.{asked_by_union, answers_count, fenced_before}
use Rattle.volume_theorems.proofs.Lives.{next_later}
use Rattle.volume_theorems.proofs.Standing.{one_of_generation}
use Rattle.volume_theorems.proofs.Seeing.{IsHandedOn, HadUnder, quorums_see, fenced_in_union}
use Rattle.volume_theorems.proofs.Proposing.{WasProposed, IsFromProposal, all_sent}
use Rattle.volume_theorems.proofs.Choosing.{HasChosen, voted, proposer_asked, chosen_proposed, epochs_rise, IsFound, best_found, one_chosen, IsChosenBy, chosen_by, one_truncation, opener_made}

-- An engine that proposes a truncation of its own for epoch k: a quorum had come to an epoch and to a point under it, and what is sent for
-- later epochs up to k is at or above the point.
pub record IsClaim (run : VolumeRun) (e k epoch point : ℕ) : Type 0 where
  pub opens : (run.engines e).opens ≡ k
  pub moment : ℕ
  pub proposed : MayPropose run e k moment
  pub held : Many run (WasUnder run e (λ n. (epoch ≤ n.content.epoch) × Contains n.content.points point))
  pub upto : (t : ℕ) (c : CutData) → IsCutSent run t c → epoch < c.epoch → c.epoch ≤ k → point ≤ c.lo

-- only engines of higher generations propose for later epochs
only_higher : (run : VolumeRun) (e g k l s t : ℕ) → FollowsProtocol run → (run.engines e).opens ≡ k → MayPropose run e k s → MayPropose run g l t
    → k < l → (run.engines e).generation < (run.engines g).generation
only_higher run e g k l s t is opens own p above = ⊎_elim
    (λ (higher : (run.engines e).generation < (run.engines g).generation). higher)
    (λ rest. ⊎_elim
    (λ (lower : (run.engines g).generation < (run.engines e).generation).
    let upto : l ≤ k = epochs_rise run g e l k t s is p own lower in absurd (omega arith))
    (λ (equal : (run.engines e).generation ≡ (run.engines g).generation).
    let itself : e ≡ g = one_of_generation run e g s t is (proposer_asked run e k s own) (proposer_asked run g l t p) equal in
    let again : (run.engines g).opens ≡ k = ap (λ (x : ℕ). (run.engines x).opens) (sym itself) ∙ opens in
    ⊎_elim
    (λ (adopts : AdoptsPending run g l p.best). let lower : l < (run.engines g).opens = adopts.below in absurd (omega arith))
    (λ (makes : MakesOwn run g l p.union p.best). let same : l ≡ (run.engines g).opens = makes.opens in absurd (omega arith))
    p.choice)
    rest)
    (let which : ((run.engines e).generation < (run.engines g).generation)
    ⊎ (((run.engines g).generation < (run.engines e).generation) ⊎ ((run.engines e).generation ≡ (run.engines g).generation)) = grind arith in which)

-- what an engine has sent was proposed before
pub sent_proposed : (run : VolumeRun) (t : ℕ) (c : CutData) → FollowsProtocol run → (sent : IsCutSent run t c)
    → (s : ℕ) × (s < t) × MayPropose run sent.0 c.epoch s
sent_proposed run t c is sent =
    let Votes : ℕ → Type 0 = λ i. (s : ℕ) × (s < t) × MakesMove run s i (Accepts sent.0 c.epoch) in
    let met = quorums_meet run Votes Votes is sent.2 sent.2 in
    let x = met.1 in
    (x.0, x.1, (voted run sent.0 c.epoch x.0 met.0 is x.2).proposed)

-- all proposals of later epochs at the moment are at or above the point
abbrev pub AllAbove : VolumeRun → ℕ → ℕ → ℕ → ℕ → Type 0
AllAbove run e k point t =
    (f l : ℕ) → MayPropose run f l t → (run.engines e).generation < (run.engines f).generation → k < l → point ≤ ((run.engines f).cuts l).lo

module _ (run : VolumeRun) (e k epoch point : ℕ) (is : FollowsProtocol run) (claim : IsClaim run e k epoch point) where
  sent_above : (t x : ℕ) (c : CutData) → ((s : ℕ) → s < t → AllAbove run e k point s) → x ≤ t → IsCutSent run x c → epoch < c.epoch → point ≤ c.lo
  sent_above t x c earlier order sent later = ⊎_elim
      (λ (low : c.epoch ≤ k). claim.upto x c sent later low)
      (λ (high : k < c.epoch).
      let p = sent_proposed run x c is sent in
      let before : p.0 < x = p.1 in
      let above : point ≤ ((run.engines sent.0).cuts c.epoch).lo =
      earlier p.0 (omega arith) sent.0 c.epoch p.2 (only_higher run e sent.0 k c.epoch claim.moment p.0 is claim.opens claim.proposed p.2 high) high in
      subst (λ (d : CutData). point ≤ d.lo) sent.1 above)
      (let which : (c.epoch ≤ k) ⊎ (k < c.epoch) = grind arith in which)

  -- the content has come to the epoch and to the point
  abbrev pub HasCome : Content → Type 0
  HasCome content = (epoch ≤ content.epoch) × Contains content.points point

  comes_on : (t x : ℕ) (old new : Content) → ((s : ℕ) → s < t → AllAbove run e k point s) → x ≤ t
      → ((c : CutData) → Contains new.cuts c → IsCutSent run x c) → GrowsTo old new → HasCome old → HasCome new
  comes_on t x old new earlier order sent grows had =
      let first : epoch ≤ old.epoch = had.0 in
      let more : old.epoch ≤ new.epoch = grows.epoch in (
        omega arith,
        grows.points point had.1
            (λ c inside (above : old.epoch < c.epoch) within. sent_above t x c earlier order (sent c inside) (omega arith)),
      )

  in_union : (t x f j : ℕ) (u : Content) → ((s : ℕ) → s < t → AllAbove run e k point s) → x ≤ t → IsUnion run f x u → IsInQuorum run f j
      → HasCome (run.nodes ((run.engines f).fenced j) j).content → HasCome u
  in_union t x f j u earlier order union among had =
      let of = fenced_in_union run f x j u is union among in
      let before : of.0 < x = of.1 in
      comes_on t x (run.nodes of.0 j).content u earlier order union.sent of.2
      (comes_on t of.0 (run.nodes ((run.engines f).fenced j) j).content (run.nodes of.0 j).content earlier (omega arith) (all_sent run of.0 is j) of.3 had)

  -- up to the moment t
  abbrev pub HasComeBy : ℕ → ℕ → ℕ → Type 0
  HasComeBy t x i = x ≤ t → HasCome (run.nodes x i).content

  entered_come : (t x i f j : ℕ) → ((s : ℕ) → s < t → AllAbove run e k point s) → x ≤ t → IsInQuorum run f j
      → HasCome (run.nodes ((run.engines f).fenced j) j).content → IsEntering run x f i (run.nodes x i) (run.nodes (suc x) i)
      → HasCome (run.nodes (suc x) i).content
  entered_come t x i f j earlier order among had says =
      let union = in_union t x f j says.admits.union earlier order says.admits.unites among had in
      let one : epoch ≤ says.admits.union.epoch = union.0 in
      let at : (run.nodes x i).content.epoch ≡ says.admits.union.epoch = says.admits.epoch in
      let here : HasCome (run.nodes x i).content = (omega arith, says.admits.points point union.1) in
      subst (λ (n : VolumeNode). HasCome n.content) (sym says.new_is) here

  come_handed : (t : ℕ) → ((s : ℕ) → s < t → AllAbove run e k point s) → IsHandedOn run (HasComeBy t)
  come_handed t earlier = record {
    keeps = λ x i same member had order.
        comes_on t (suc x) (run.nodes x i).content (run.nodes (suc x) i).content earlier order (all_sent run (suc x) is i)
        ((next_later run x i is same).content member) (had (omega arith));
    passes = λ x i f j makes among had order.
        let says : IsEntering run x f i (run.nodes x i) (run.nodes (suc x) i) = made run x i (IsAdmitted f) is makes in
        let early : (run.engines f).fenced j < x = fenced_before run f x j (asked_by_union run f x says.admits.union says.admits.unites) among in
        entered_come t x i f j earlier (omega arith) among (had (omega arith)) says;
  }

  adopted_above : (f l t : ℕ) (best : Option Vote) → ((s : ℕ) → s < t → AllAbove run e k point s) → ((run.engines f).cuts l).epoch ≡ l → k < l
      → IsFound run f t best → AdoptsPending run f l best → point ≤ ((run.engines f).cuts l).lo
  adopted_above f l t None earlier of_epoch above found adopts = absurd adopts.pending
  adopted_above f l t (Some v) earlier of_epoch above found adopts =
      let w : WasProposed run t v = found.proposed in
      let at : v.cut.epoch ≡ l = ap (λ (c : CutData). c.epoch) adopts.pending ∙ of_epoch in
      let p : MayPropose run w.engine l w.moment = subst (λ (x : ℕ). MayPropose run w.engine x w.moment) at w.proposed in
      let higher = only_higher run e w.engine k l claim.moment w.moment is claim.opens claim.proposed p above in
      let lo : point ≤ ((run.engines w.engine).cuts l).lo = earlier w.moment w.before w.engine l p higher above in
      let same : (run.engines w.engine).cuts l ≡ (run.engines f).cuts l =
      ap (λ (x : ℕ). (run.engines w.engine).cuts x) (sym at) ∙ w.cut ∙ adopts.pending in
      subst (λ (c : CutData). point ≤ c.lo) same lo

  above_at : (t : ℕ) → ((s : ℕ) → s < t → AllAbove run e k point s) → AllAbove run e k point t
  above_at t earlier f l p higher above =
      let many : Many run (HadUnder run e (HasComeBy t)) =
      (claim.held.0, claim.held.1, λ i among. let x = claim.held.2 i among in (x.0, x.1, λ order. x.2)) in
      let asked : HasAsked run f t = proposer_asked run f l t p in
      let found = quorums_see run e (HasComeBy t) is (come_handed t earlier) f t many asked higher in
      let early : (run.engines f).fenced found.0 < t = fenced_before run f t found.0 asked found.1 in
      let union : HasCome p.union = in_union t t f found.0 p.union earlier (omega arith) p.unites found.1 (found.2 (omega arith)) in
      ⊎_elim
      (λ (adopts : AdoptsPending run f l p.best). adopted_above f l t p.best earlier p.of_epoch above (best_found run f l t is p) adopts)
      (λ (makes : MakesOwn run f l p.union p.best). makes.last point union.1)
      p.choice

  -- Each truncation that is chosen for a later epoch is at or above the point.
  pub claim_lasts : (g : ℕ) (c : CutData) → IsChosen run g c → k < c.epoch → point ≤ c.lo
  claim_lasts g c chosen above =
      let by : IsChosenBy run g c = chosen_by run g c is chosen in
      let p = chosen_proposed run by.engine c.epoch is by.chosen in
      let higher = only_higher run e by.engine k c.epoch claim.moment p.0 is claim.opens claim.proposed p.1 above in
      let lo : point ≤ ((run.engines by.engine).cuts c.epoch).lo = by_time (AllAbove run e k point) above_at p.0 by.engine c.epoch p.1 higher above in
      subst (λ (d : CutData). point ≤ d.lo) by.cut lo

-- ---- what a quorum has reported
reported_claim : (run : VolumeRun) (e epoch point : ℕ) → FollowsProtocol run → HasOpened run e epoch → IsReported run e epoch point
    → IsClaim run e epoch epoch point
reported_claim run e epoch point is opened reported =
    let p = chosen_proposed run e epoch is opened.accepted in
    record {
      opens = opened.own;
      moment = p.0;
      proposed = p.1;
      held = (
        reported.0,
        reported.1,
        λ i among.
            let x = reported.2 i among in
            let at : (run.nodes x.0 i).content.epoch ≡ epoch = x.2.0 in
            (x.0, x.1, (omega arith, x.2.1)),
      );
      upto = λ t c sent above within. absurd (omega arith);
    }

-- ---- lo
-- an engine made the truncation itself
pub record HasOrigin (run : VolumeRun) (k : ℕ) (c : CutData) : Type 0 where
  pub engine : ℕ
  pub moment : ℕ
  pub opens : (run.engines engine).opens ≡ k
  pub proposed : MayPropose run engine k moment
  pub cut : (run.engines engine).cuts k ≡ c

abbrev pub AllOriginate : VolumeRun → ℕ → CutData → ℕ → Type 0
AllOriginate run k c t = (f : ℕ) → MayPropose run f k t → (run.engines f).cuts k ≡ c → HasOrigin run k c

adopted_origin : (run : VolumeRun) (k f t : ℕ) (c : CutData) (best : Option Vote) → ((s : ℕ) → s < t → AllOriginate run k c s)
    → ((run.engines f).cuts k).epoch ≡ k → (run.engines f).cuts k ≡ c → IsFromProposal run t best → AdoptsPending run f k best → HasOrigin run k c
adopted_origin run k f t c None earlier of_epoch cut from adopts = absurd adopts.pending
adopted_origin run k f t c (Some v) earlier of_epoch cut from adopts =
    let at : v.cut.epoch ≡ k = ap (λ (x : CutData). x.epoch) adopts.pending ∙ of_epoch in
    earlier from.moment from.before from.engine (subst (λ (x : ℕ). MayPropose run from.engine x from.moment) at from.proposed)
    (ap (λ (x : ℕ). (run.engines from.engine).cuts x) (sym at) ∙ from.cut ∙ adopts.pending ∙ cut)

all_originate : (run : VolumeRun) (k : ℕ) (c : CutData) → FollowsProtocol run → (t : ℕ) → AllOriginate run k c t
all_originate run k c is = by_time (AllOriginate run k c) (λ t earlier f p cut. ⊎_elim
    (λ (adopts : AdoptsPending run f k p.best). adopted_origin run k f t c p.best earlier p.of_epoch cut (best_found run f k t is p).proposed adopts)
    (λ (makes : MakesOwn run f k p.union p.best).
    let own : HasOrigin run k c = record { engine = f; moment = t; opens = sym makes.opens; proposed = p; cut = cut } in own)
    p.choice)

sent_same : (run : VolumeRun) (t a : ℕ) (c d : CutData) → FollowsProtocol run → HasChosen run a c.epoch → (run.engines a).cuts c.epoch ≡ c
    → IsCutSent run t d → d.epoch ≡ c.epoch → d ≡ c
sent_same run t a c d is chosen cut sent same =
    let many : HasChosen run sent.0 d.epoch = (sent.2.0, sent.2.1, λ i among. let x = sent.2.2 i among in (x.0, x.2)) in
    let again : HasChosen run sent.0 c.epoch = subst (λ (x : ℕ). HasChosen run sent.0 x) same many in
    sym sent.1 ∙ ap (λ (x : ℕ). (run.engines sent.0).cuts x) same ∙ one_chosen run sent.0 a c.epoch is again chosen ∙ cut

-- the engine that made a chosen truncation knew that a quorum had come to its lo
origin_claim : (run : VolumeRun) (a : ℕ) (c : CutData) → FollowsProtocol run → HasChosen run a c.epoch → (run.engines a).cuts c.epoch ≡ c
    → (o : HasOrigin run c.epoch c) → IsClaim run o.engine c.epoch o.proposed.union.epoch c.lo
origin_claim run a c is chosen cut o =
    let p : MayPropose run o.engine c.epoch o.moment = o.proposed in
    let next : c.epoch ≡ suc p.union.epoch = p.next in
    let lo : ((run.engines o.engine).cuts c.epoch).lo ≡ c.lo = ap (λ (x : CutData). x.lo) o.cut in
    record {
      opens = o.opens;
      moment = o.moment;
      proposed = p;
      held = (
        p.known.0,
        p.known.1,
        λ i among.
            let x = p.known.2 i among in
            let at : (run.nodes x.0 i).content.epoch ≡ p.union.epoch = x.3 in
            (x.0, answers_count run o.engine x.0 i x.2, (omega arith, subst (λ (p : ℕ). Contains (run.nodes x.0 i).content.points p) lo x.4)),
      );
      upto = λ t d sent (above : p.union.epoch < d.epoch) (within : d.epoch ≤ c.epoch).
          let same : d.epoch ≡ c.epoch = omega arith in
          let itself : c.lo ≡ d.lo = ap (λ (x : CutData). x.lo) (sym (sent_same run t a c d is chosen cut sent same)) in
          omega arith;
    }

lo_rises_over : (run : VolumeRun) (g h : ℕ) (c d : CutData) → FollowsProtocol run → IsChosen run g c → IsChosen run h d → c.epoch < d.epoch
    → c.lo ≤ d.lo
lo_rises_over run g h c d is one other order =
    let by : IsChosenBy run g c = chosen_by run g c is one in
    let p = chosen_proposed run by.engine c.epoch is by.chosen in
    let o : HasOrigin run c.epoch c = all_originate run c.epoch c is p.0 by.engine p.1 by.cut in
    claim_lasts run o.engine c.epoch o.proposed.union.epoch c.lo is (origin_claim run by.engine c is by.chosen by.cut o) h d other order

pub lo_rises : LoRises
lo_rises run g h c d is one other order = ⊎_elim
    (λ (later : c.epoch < d.epoch). lo_rises_over run g h c d is one other later)
    (λ (same : c.epoch ≡ d.epoch). let equal : c.lo ≡ d.lo = ap (λ (x : CutData). x.lo) (one_truncation run g h c d is one other same) in omega arith)
    (let which : (c.epoch < d.epoch) ⊎ (c.epoch ≡ d.epoch) = grind arith in which)

-- ---- durable
opened_chosen : (run : VolumeRun) (e epoch : ℕ) → FollowsProtocol run → HasOpened run e epoch
    → IsChosen run (run.engines e).generation ((run.engines e).cuts epoch)
opened_chosen run e epoch is opened =
    let p = chosen_proposed run e epoch is opened.accepted in
    let at : epoch ≡ ((run.engines e).cuts epoch).epoch = sym p.1.of_epoch in (
      opened.accepted.0,
      opened.accepted.1,
      λ i among.
          let x = opened.accepted.2 i among in
          (x.0, e, subst (λ (k : ℕ). MakesMove run x.0 i (Accepts e k)) at x.1, refl, ap (λ (k : ℕ). (run.engines e).cuts k) (sym at)),
    )

pub durable_lasts : DurableLasts
durable_lasts run e epoch point g c is durable chosen later = ⊎_elim
    (λ (opened : point ≡ ((run.engines e).cuts epoch).lo).
    let p = chosen_proposed run e epoch is durable.0.accepted in
    let at : ((run.engines e).cuts epoch).epoch ≡ epoch = p.1.of_epoch in
    let upto : ((run.engines e).cuts epoch).lo ≤ c.lo =
    lo_rises run (run.engines e).generation g ((run.engines e).cuts epoch) c is (opened_chosen run e epoch is durable.0) chosen (omega arith) in
    omega arith)
    (λ (reported : IsReported run e epoch point).
    claim_lasts run e epoch epoch point is (reported_claim run e epoch point is durable.0 reported) g c chosen later)
    durable.1

pub opens_above : OpensAbove
opens_above run e f epoch later point is durable opened order =
    let p = chosen_proposed run f later is opened.accepted in
    let at : ((run.engines f).cuts later).epoch ≡ later = p.1.of_epoch in
    durable_lasts run e epoch point (run.engines f).generation ((run.engines f).cuts later) is durable (opened_chosen run f later is opened) (omega arith)

pub lo_is_point : LoIsPoint
lo_is_point run g c is chosen =
    let by : IsChosenBy run g c = chosen_by run g c is chosen in
    let p = chosen_proposed run by.engine c.epoch is by.chosen in
    let o : HasOrigin run c.epoch c = all_originate run c.epoch c is p.0 by.engine p.1 by.cut in
    let makes : MakesOwn run o.engine c.epoch o.proposed.union o.proposed.best = opener_made run o.engine c.epoch o.moment o.opens o.proposed in (
      o.engine,
      o.moment,
      o.proposed.union,
      o.proposed.unites,
      o.proposed.next,
      subst (λ (d : CutData). Contains o.proposed.union.points d.lo) o.cut makes.lo,
    )
