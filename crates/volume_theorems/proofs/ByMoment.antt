-- What was done by a moment: the theorems of the run that stops then.
use Rattle.std.proofs.Common.{◌≡◌, ℕ, suc, ◌<◌, ◌⊎◌, ⊎_elim, inl, inr, subst, arith}
use Rattle.std.specs.List.{Contains}
use Rattle.redo_core.specs.Data.{CutData}
use Rattle.volume_theorems.specs.Nodes.{VolumeNode}
use Rattle.volume_theorems.specs.Runs.{VolumeRun, MakesMove, Many}
use Rattle.volume_theorems.specs.Runs.Move.{Accepts}
use Rattle.volume_theorems.specs.Opening.{IsCutSent}
use Rattle.volume_theorems.specs.Proposing.{MayPropose}
use Rattle.volume_theorems.specs.Protocol.{IsVoting}
use Rattle.volume_theorems.specs.Choosing.{HasOpened}
use Rattle.volume_theorems.specs.Lasting.{IsReported, IsDurable}
use Rattle.volume_theorems.specs.Stopping.{FollowsUntil, stopped}
use Rattle.volume_theorems.specs.ByMoment.{HasOpenedBy, IsReportedBy, IsDurableBy, OneSentBy, LoRisesBy, LoIsHeld, OneWriterBy, DurableLastsBy, EpochsInOrder}
use Rattle.volume_theorems.proofs.Quorums.{meet_within}
use Rattle.volume_theorems.proofs.Choosing.{one_truncation, one_writer, sent_chosen}
use Rattle.volume_theorems.proofs.Lasting.{lo_rises, durable_lasts}
use Rattle.volume_theorems.proofs.Proposing.{all_sent}
use Rattle.volume_theorems.proofs.Stopping.{stopped_follows, made_until, makes_back, sent_is, makes_is, counts_is, of_node}

-- ---- what was done by the moment was done in the run that stops then
opened_is : (run : VolumeRun) (t e epoch : ℕ) → HasOpenedBy run t e epoch → HasOpened (stopped run t) e epoch
opened_is run t e epoch opened = record {
  own = opened.own;
  accepted = (
    opened.accepted.0,
    opened.accepted.1,
    λ i among.
        let x = opened.accepted.2 i among in
        (x.0, makes_is run t x.0 i (Accepts e epoch) x.1 x.2),
  );
}

reported_is : (run : VolumeRun) (t e epoch point : ℕ) → IsReportedBy run t e epoch point → IsReported (stopped run t) e epoch point
reported_is run t e epoch point many = (
  many.0,
  many.1,
  λ i among.
      let x = many.2 i among in (
        x.0,
        counts_is run t e x.0 i x.1 x.2,
        (
          of_node run t (λ (n : VolumeNode). n.content.epoch ≡ epoch) x.0 i x.1 x.3,
          of_node run t (λ (n : VolumeNode). Contains n.content.points point) x.0 i x.1 x.4,
        ),
      ),
)

durable_is : (run : VolumeRun) (t e epoch point : ℕ) → IsDurableBy run t e epoch point → IsDurable (stopped run t) e epoch point
durable_is run t e epoch point durable = (
  opened_is run t e epoch durable.0,
  ⊎_elim
      (λ (opened : point ≡ ((run.engines e).cuts epoch).lo). inl opened)
      (λ (reported : IsReportedBy run t e epoch point). inr (reported_is run t e epoch point reported))
      durable.1,
)

-- ---- theorems
pub one_sent_by : OneSentBy
one_sent_by run t c d is one other same =
    let a = sent_chosen (stopped run t) t c (sent_is run t t c (omega arith) one) in
    let b = sent_chosen (stopped run t) t d (sent_is run t t d (omega arith) other) in
    one_truncation (stopped run t) a.0 b.0 c d (stopped_follows run t is) a.1 b.1 same

pub lo_rises_by : LoRisesBy
lo_rises_by run t c d is one other order =
    let a = sent_chosen (stopped run t) t c (sent_is run t t c (omega arith) one) in
    let b = sent_chosen (stopped run t) t d (sent_is run t t d (omega arith) other) in
    lo_rises (stopped run t) a.0 b.0 c d (stopped_follows run t is) a.1 b.1 order

pub one_writer_by : OneWriterBy
one_writer_by run t e f epoch is one other =
    one_writer (stopped run t) e f epoch (stopped_follows run t is) (opened_is run t e epoch one) (opened_is run t f epoch other)

pub durable_lasts_by : DurableLastsBy
durable_lasts_by run t e epoch point c is durable sent later =
    let a = sent_chosen (stopped run t) t c (sent_is run t t c (omega arith) sent) in
    durable_lasts (stopped run t) e epoch point a.0 c (stopped_follows run t is) (durable_is run t e epoch point durable) a.1 later

-- a vote for a truncation that was sent
voted_by : (run : VolumeRun) (t : ℕ) (c : CutData) → FollowsUntil run t → (sent : IsCutSent run t c) → (s : ℕ) × (s < t) × MayPropose run sent.0 c.epoch s
voted_by run t c is sent =
    let Votes : ℕ → Type 0 = λ i. (s : ℕ) × (s < t) × MakesMove run s i (Accepts sent.0 c.epoch) in
    let met = meet_within run Votes Votes is.overlap sent.2 sent.2 in
    let x = met.1 in
    let says : IsVoting run x.0 sent.0 c.epoch (run.nodes x.0 met.0) (run.nodes (suc x.0) met.0) =
    made_until run t x.0 met.0 (Accepts sent.0 c.epoch) is x.1 x.2 in
    (x.0, x.1, says.proposed)

pub lo_is_held : LoIsHeld
lo_is_held run t c is sent =
    let p = voted_by run t c is sent in
    let before : p.0 < t = p.1 in
    let Knows : ℕ → Type 0 = λ i. (s : ℕ) × (s < t)
    × (c.epoch ≡ suc (run.nodes s i).content.epoch) × Contains (run.nodes s i).content.points c.lo in
    let many : Many run Knows = (
      p.2.known.0,
      p.2.known.1,
      λ i among.
          let x = p.2.known.2 i among in
          let early : x.0 < p.0 = x.1 in
          let at : (run.nodes x.0 i).content.epoch ≡ p.2.union.epoch = x.3 in
          let next : c.epoch ≡ suc p.2.union.epoch = p.2.next in
          (x.0, omega arith, omega arith, subst (λ (d : CutData). Contains (run.nodes x.0 i).content.points d.lo) sent.1 x.4),
    ) in
    let met = meet_within run Knows Knows is.overlap many many in
    (met.1.0, met.0, met.1.1, met.1.2, met.1.3)

-- a truncation that a node has was sent before
node_sent : (run : VolumeRun) (t s i : ℕ) (c : CutData) → FollowsUntil run t → s < t → Contains (run.nodes s i).content.cuts c → IsCutSent run t c
node_sent run t s i c is before inside =
    let had : Contains ((stopped run t).nodes s i).content.cuts c =
    of_node run t (λ (n : VolumeNode). Contains n.content.cuts c) s i (omega arith) inside in
    let sent : IsCutSent (stopped run t) s c = all_sent (stopped run t) s (stopped_follows run t is) i c had in (
      sent.0,
      sent.1,
      (
        sent.2.0,
        sent.2.1,
        λ j among.
            let x = sent.2.2 j among in
            let early : x.0 < s = x.1 in
            (x.0, omega arith, makes_back run t x.0 j (Accepts sent.0 c.epoch) (omega arith) x.2),
      ),
    )

pub epochs_in_order : EpochsInOrder
epochs_in_order run t c k is all sent low within = ⊎_elim
    (λ (last : c.epoch ≡ k). (c, sent, last))
    (λ (below : k < c.epoch).
    let held = lo_is_held run t c is sent in
    let at : c.epoch ≡ suc (run.nodes held.0 held.1).content.epoch = held.3 in
    let d = all held.0 held.1 held.2 k low (omega arith) in
    (d.0, node_sent run t held.0 held.1 d.0 is held.2 d.1, d.2))
    (let way : (c.epoch ≡ k) ⊎ (k < c.epoch) = grind arith in way)
