-- What is durable is a commit point of the log, and no truncation of the log is below it.
use Rattle.std.proofs.Common.{◌≡◌, ℕ, zero, suc, ◌<◌, ◌≤◌, ◌⊎◌, ⊎_elim, inl, inr, List, refl, sym, subst, ap, arith}
use Rattle.std.specs.List.{Contains}
use Rattle.redo_core.specs.Data.{RecordData, CutData}
use Rattle.redo_core.specs.Sets.{IsPart, cuts}
use Rattle.redo_core.specs.CompleteEpoch.{HasCutsTo}
use Rattle.redo_core.specs.Standing.{IsAlive}
use Rattle.redo_core.specs.Linked.{IsLinkedRecord}
use Rattle.redo_core.specs.Sound.{IsSound}
use Rattle.redo_core.specs.declared.facts.Fact.{Fact}
use Rattle.redo_core.specs.declared.facts.Fact.TheVariants.{Cut}
use Rattle.redo_core.proofs.FactParts.{cut_in, part_records}
use Rattle.redo_core.proofs.CompleteEpochs.{has_cuts}
use Rattle.log_theorems.proofs.Log.{log_of_sound}
use Rattle.log_theorems.proofs.Views.{alive_up}
use Rattle.volume_theorems.specs.Nodes.{Content}
use Rattle.volume_theorems.specs.Runs.{VolumeRun, MakesMove, Many}
use Rattle.volume_theorems.specs.Runs.Move.{Accepts}
use Rattle.volume_theorems.specs.Opening.{CountsUnder, IsCutSent}
use Rattle.volume_theorems.specs.Protocol.{IsVoting}
use Rattle.volume_theorems.specs.Stopping.{FollowsUntil}
use Rattle.volume_theorems.specs.ByMoment.{HasOpenedBy, IsReportedBy, IsDurableBy}
use Rattle.volume_theorems.specs.Contents.{IsCommitPoint, IsContentOf}
use Rattle.volume_theorems.proofs.Quorums.{meet_within}
use Rattle.volume_theorems.proofs.Stopping.{made_until}
use Rattle.volume_theorems.proofs.ByMoment.{lo_is_held, durable_lasts_by, one_sent_by}
use Rattle.volume_logs.specs.Histories.{History, log_at}
use Rattle.volume_logs.specs.Emitting.{IsEmitted}
use Rattle.volume_logs.specs.Commits.{CutsAtCommits, DurableIsCommit}
use Rattle.volume_logs.proofs.Moments.{until_earlier}
use Rattle.volume_logs.proofs.Views.{IsAliveIn, alive_linked}
use Rattle.volume_logs.proofs.Epochs.{in_epoch, cut_at, at_later}
use Rattle.volume_logs.proofs.Sound.{log_is_sound}

-- an engine that has opened an epoch has sent its truncation
pub opened_sent : (run : VolumeRun) (t e k : ℕ) → FollowsUntil run t → HasOpenedBy run t e k
    → (((run.engines e).cuts k).epoch ≡ k) × IsCutSent run t ((run.engines e).cuts k)
opened_sent run t e k is opened =
    let Votes : ℕ → Type 0 = λ i. (s : ℕ) × (s < t) × MakesMove run s i (Accepts e k) in
    let met = meet_within run Votes Votes is.overlap opened.accepted opened.accepted in
    let x = met.1 in
    let says : IsVoting run x.0 e k (run.nodes x.0 met.0) (run.nodes (suc x.0) met.0) = made_until run t x.0 met.0 (Accepts e k) is x.1 x.2 in
    let at : ((run.engines e).cuts k).epoch ≡ k = says.proposed.of_epoch in (
      at,
      (
        e,
        ap (λ (n : ℕ). (run.engines e).cuts n) at,
        subst (λ (n : ℕ). Many run (λ i. (s : ℕ) × (s < t) × MakesMove run s i (Accepts e n))) (sym at) opened.accepted,
      ),
    )

module _ (run : VolumeRun) (h : History) (stop : ℕ) (follows : FollowsUntil run stop) (is : IsEmitted run h stop) where
  pub has_to : (t k : ℕ) → k ≤ h.newest t → HasCutsTo (cuts (log_at h t)) k
  has_to t k within zero low upto = absurd (omega arith)
  has_to t k within (suc j) low upto = (
    h.cuts (suc j),
    (cut_in (log_at h t) (h.cuts (suc j))).1 (in_epoch h t (h.newest t) j (Cut (h.cuts (suc j))) (omega arith) (inl refl)),
    is.epochs (suc j),
  )

  pub cut_sent : (t : ℕ) (c : CutData) → t ≤ stop → Contains (cuts (log_at h t)) c → IsCutSent run t c × (c.epoch ≤ h.newest t)
  cut_sent t c upto inside =
      let x = cut_at run h stop is t (h.newest t) c upto ((cut_in (log_at h t) c).0 inside) in
      let low : x.0 < h.newest t = x.1 in
      let at : (h.cuts (suc x.0)).epoch ≡ suc x.0 = is.epochs (suc x.0) in
      let same : (h.cuts (suc x.0)).epoch ≡ c.epoch = ap (λ (d : CutData). d.epoch) x.2 in
      (subst (λ (d : CutData). IsCutSent run t d) x.2 (is.sent t (suc x.0) upto (omega arith) (omega arith)), omega arith)

  -- no truncation of the log annuls what is durable
  pub durable_spared : (t e epoch point : ℕ) (c : CutData) → t ≤ stop → IsDurableBy run t e epoch point → Contains (cuts (log_at h t)) c
      → epoch < c.epoch → point ≤ c.lo
  durable_spared t e epoch point c upto durable inside later =
      durable_lasts_by run t e epoch point c (until_earlier run t stop upto follows) durable (cut_sent t c upto inside).0 later

  pub opened_within : (t e epoch : ℕ) → t ≤ stop → HasOpenedBy run t e epoch → epoch ≤ h.newest t
  opened_within t e epoch upto opened =
      let sent = opened_sent run t e epoch (until_earlier run t stop upto follows) opened in
      let at : ((run.engines e).cuts epoch).epoch ≡ epoch = sent.0 in
      let within : ((run.engines e).cuts epoch).epoch ≤ h.newest t = is.newest t ((run.engines e).cuts epoch) upto sent.1 in
      omega arith

  -- a commit point that a node had is one of the log in the view, where no truncation of the log up to the view annuls it
  held_point : (x t k point : ℕ) (part : List Fact) (content : Content) → x ≤ t → t ≤ stop → IsPart part (log_at h x) → IsContentOf part content
      → content.epoch ≤ k → ((c : CutData) → Contains (cuts (log_at h t)) c → content.epoch < c.epoch → c.epoch ≤ k → point ≤ c.lo)
      → IsCommitPoint part content.epoch point → IsCommitPoint (log_at h t) k point
  held_point x t k point part content order upto inner of later above is_point =
      let sound : IsSound h.readers (log_at h t) = log_is_sound run h stop t follows is upto in
      let inside : IsPart part (log_at h t) = λ f here. at_later run h stop is x t order upto f (inner f here) in
      ⊎_elim inl
      (λ (r : (r : RecordData) × IsLinkedRecord part content.epoch r × (r.page ≡ 0) × (r.number ≡ point)).
      let number : r.0.number ≡ point = r.3 in
      let known : r.0.epoch ≤ content.epoch = r.1.alive.known in
      let alive : IsAlive (cuts (log_at h t)) content.epoch r.0.epoch r.0.number =
      alive_up (log_at h t) part (log_of_sound h.readers (log_at h t) sound) inside content.epoch r.0.epoch r.0.number
      (has_cuts (cuts part) content.epoch of.epoch) r.1.alive in
      let here : IsAliveIn (log_at h t) k r.0 = record {
        among = part_records part (log_at h t) inside r.0 r.1.among;
        alive = record {
          known = omega arith;
          begun = alive.begun;
          spared = λ c among over within. ⊎_elim
              (λ (low : c.epoch ≤ content.epoch). alive.spared c among over low)
              (λ (high : content.epoch < c.epoch). let lo : point ≤ c.lo = above c among high within in omega arith)
              (let way : (c.epoch ≤ content.epoch) ⊎ (content.epoch < c.epoch) = grind arith in way);
        };
      } in
      inr (r.0, alive_linked h.readers (log_at h t) sound k r.0 here, r.2, r.3))
      is_point

  reported_point : (t e epoch point : ℕ) → t ≤ stop → IsReportedBy run t e epoch point → IsCommitPoint (log_at h t) epoch point
  reported_point t e epoch point upto many =
      let Had : ℕ → Type 0 = λ i. (s : ℕ) × (s ≤ t) × CountsUnder run e s i
      × ((run.nodes s i).content.epoch ≡ epoch) × Contains (run.nodes s i).content.points point in
      let met = meet_within run Had Had follows.overlap many many in
      let x = met.1 in
      let order : x.0 ≤ t = x.1 in
      let at : (run.nodes x.0 met.0).content.epoch ≡ epoch = x.3 in
      let has = is.held x.0 met.0 (omega arith) in
      held_point x.0 t epoch point has.0 (run.nodes x.0 met.0).content order upto has.1 has.2 (omega arith)
      (λ c among over within. absurd (omega arith)) ((has.2.points point).0 x.4)

  -- lo of a truncation that was sent
  pub sent_point : (t : ℕ) (cut : CutData) → t ≤ stop → IsCutSent run t cut → IsCommitPoint (log_at h t) cut.epoch cut.lo
  sent_point t cut upto sent =
      let until : FollowsUntil run t = until_earlier run t stop upto follows in
      let held = lo_is_held run t cut until sent in
      let before : held.0 < t = held.2 in
      let next : cut.epoch ≡ suc (run.nodes held.0 held.1).content.epoch = held.3 in
      let has = is.held held.0 held.1 (omega arith) in
      held_point held.0 t cut.epoch cut.lo has.0 (run.nodes held.0 held.1).content (omega arith) upto has.1 has.2 (omega arith)
      (λ c among over within.
      let same : c.epoch ≡ cut.epoch = omega arith in
      let itself : c.lo ≡ cut.lo = ap (λ (d : CutData). d.lo) (one_sent_by run t c cut until (cut_sent t c upto among).0 sent same) in
      omega arith)
      ((has.2.points cut.lo).0 held.4)

  opened_point : (t e epoch : ℕ) → t ≤ stop → HasOpenedBy run t e epoch → IsCommitPoint (log_at h t) epoch ((run.engines e).cuts epoch).lo
  opened_point t e epoch upto opened =
      let sent = opened_sent run t e epoch (until_earlier run t stop upto follows) opened in
      subst (λ (k : ℕ). IsCommitPoint (log_at h t) k ((run.engines e).cuts epoch).lo) sent.0 (sent_point t ((run.engines e).cuts epoch) upto sent.1)

  -- what is durable is a commit point of the log
  pub durable_point : (t e epoch point : ℕ) → t ≤ stop → IsDurableBy run t e epoch point → IsCommitPoint (log_at h t) epoch point
  durable_point t e epoch point upto durable = ⊎_elim
      (λ (opened : point ≡ ((run.engines e).cuts epoch).lo).
      subst (λ (n : ℕ). IsCommitPoint (log_at h t) epoch n) (sym opened) (opened_point t e epoch upto durable.0))
      (λ (reported : IsReportedBy run t e epoch point). reported_point t e epoch point upto reported)
      durable.1

pub cuts_at_commits : CutsAtCommits
cuts_at_commits run h stop t c follows is upto sent = sent_point run h stop follows is t c upto sent

pub durable_is_commit : DurableIsCommit
durable_is_commit run h stop t e epoch point follows is upto durable = durable_point run h stop follows is t e epoch point upto durable
