-- What a reader counts is what the engine of the epoch would have counted.
use Rattle.std.proofs.Common.{◌≡◌, ℕ, suc, ◌^◌, ◌<◌, ◌≤◌, ⊎_elim, inr, sym, ◌∙◌, subst, ap, arith}
use Rattle.std.specs.List.{Contains}
use Rattle.redo_core.specs.Data.{RecordData, CutData}
use Rattle.redo_core.specs.Sets.{cuts}
use Rattle.redo_core.specs.Linked.{IsLinkedRecord}
use Rattle.redo_core.specs.Sound.{IsSound}
use Rattle.redo_core.specs.declared.facts.Fact.TheVariants.{Record}
use Rattle.redo_core.proofs.FactParts.{record_in, part_cuts}
use Rattle.redo_core.proofs.CompleteEpochs.{one_complete_epoch}
use Rattle.volume_theorems.specs.Runs.{VolumeRun, MakesMove}
use Rattle.volume_theorems.specs.Runs.Move.{Accepts}
use Rattle.volume_theorems.specs.Opening.{HasAsked, CountsUnder}
use Rattle.volume_theorems.specs.Protocol.{IsVoting}
use Rattle.volume_theorems.specs.Stopping.{FollowsUntil}
use Rattle.volume_theorems.specs.ByMoment.{HasOpenedBy, IsReportedBy}
use Rattle.volume_theorems.proofs.Quorums.{meet_within}
use Rattle.volume_theorems.proofs.Guards.{asked_by_union, asked_later}
use Rattle.volume_theorems.proofs.Stopping.{made_until}
use Rattle.volume_theorems.proofs.ByMoment.{one_writer_by, lo_rises_by}
use Rattle.volume_theorems.proofs.Contents.{fronts_reach}
use Rattle.volume_logs.specs.Histories.{History, log_at}
use Rattle.volume_logs.specs.Emitting.{IsEmitted}
use Rattle.volume_logs.specs.Readers.{IsCounted, CountedIsDurable, StaysKept, HeldLoIsKept}
use Rattle.redo_core.specs.Writing.{zeros, after_records}
use Rattle.redo_core.proofs.SoundFacts.{kept}
use Rattle.volume_logs.specs.PageLayout.{epoch_of_page}
use Rattle.volume_logs.proofs.PageLayout.{number_fits, Says, commit_says, IsLastWrite, last_write_or_none, epoch_zeros}
use Rattle.volume_logs.proofs.Moments.{until_earlier}
use Rattle.volume_logs.proofs.Views.{SameUpTo, same_pages, same_back, same_views}
use Rattle.volume_logs.proofs.Epochs.{record_epoch, at_later}
use Rattle.volume_logs.proofs.Sound.{log_is_sound}
use Rattle.volume_logs.proofs.Durable.{has_to, cut_sent}

pub opened_later : (run : VolumeRun) (s t e k : ℕ) → s ≤ t → HasOpenedBy run s e k → HasOpenedBy run t e k
opened_later run s t e k order opened = record {
  own = opened.own;
  accepted = (
    opened.accepted.0,
    opened.accepted.1,
    λ i among.
        let x = opened.accepted.2 i among in let before : x.0 < s = x.1 in (x.0, omega arith, x.2),
  );
}

-- who has opened an epoch has asked its whole quorum before
opened_asked : (run : VolumeRun) (t e k : ℕ) → FollowsUntil run t → HasOpenedBy run t e k → HasAsked run e t
opened_asked run t e k is opened =
    let Votes : ℕ → Type 0 = λ i. (s : ℕ) × (s < t) × MakesMove run s i (Accepts e k) in
    let met = meet_within run Votes Votes is.overlap opened.accepted opened.accepted in
    let x = met.1 in
    let before : x.0 < t = x.1 in
    let says : IsVoting run x.0 e k (run.nodes x.0 met.0) (run.nodes (suc x.0) met.0) = made_until run t x.0 met.0 (Accepts e k) is x.1 x.2 in
    asked_later run e x.0 t (omega arith) (asked_by_union run e x.0 says.proposed.union says.proposed.unites)

-- the engine whose record of page 0 the node shows
record IsOf (run : VolumeRun) (s i epoch e : ℕ) : Type 0 where
  opened : HasOpenedBy run s e epoch
  generation : (run.nodes s i).generation ≤ (run.engines e).generation

-- what a counted node's page 0 was last written by: a record of the epoch, whose number is the point
record IsCommitOf (run : VolumeRun) (h : History) (s i epoch p : ℕ) (counted : IsCounted run h s i epoch p) (r : RecordData) (e : ℕ) : Type 0 where
  of : IsOf run s i epoch e
  linked : IsLinkedRecord counted.part epoch r
  page : r.page ≡ 0
  upto : r.number ≤ counted.front.complete
  number : r.number ≡ p

module _ (run : VolumeRun) (h : History) (stop : ℕ) (follows : FollowsUntil run stop) (is : IsEmitted run h stop) where
  -- the last record of page 0, which the reader sees
  commit_seen : (s i epoch p : ℕ) → s ≤ stop → (counted : IsCounted run h s i epoch p) → (r : RecordData) × (e : ℕ) × IsCommitOf run h s i epoch p counted r e
  commit_seen s i epoch p upto counted = ⊎_elim
      (λ (none : after_records zeros counted.shown.written ≡ zeros).
      let zeroth : epoch_of_page counted.image ≡ 0 = ap epoch_of_page (counted.shown.result ∙ none) ∙ epoch_zeros in
      let own : epoch_of_page counted.image ≡ epoch = counted.own in
      let begun : 1 ≤ epoch = counted.begun in
      absurd (omega arith))
      (λ (last : IsLastWrite (after_records zeros counted.shown.written) counted.shown.written).
      let r : RecordData = last.1 in
      let member = (counted.shown.lists.members r).0 last.3 in
      let inside : Contains (log_at h s) (Record r) = counted.inner (Record r) ((record_in counted.part r).0 member.0.among) in
      let x = record_epoch run h stop is s (h.newest s) r upto inside in
      let at : r.epoch ≡ suc x.0 = x.2 in
      let w = is.writers s x.0 (Record r) upto x.3 in
      let fits : r.number < 2 ^ 64 = number_fits r (kept h.readers (log_at h s) (Record r) (log_is_sound run h stop s follows is upto) inside).shape in
      let says : Says counted.image (run.engines w.0).generation r =
      subst (λ xs. Says xs (run.engines w.0).generation r) (sym (counted.shown.result ∙ last.4))
      (commit_says last.0 (run.engines w.0).generation r last.2 fits (w.1.commits r x.3 member.1)) in
      let own : r.epoch ≡ epoch = sym says.epoch_is ∙ counted.own in
      let same : suc x.0 ≡ epoch = sym at ∙ own in (
        r,
        w.0,
        record {
          of = record {
            opened = subst (λ (k : ℕ). HasOpenedBy run s w.0 k) same w.1.opened;
            generation = subst (λ (n : ℕ). (run.nodes s i).generation ≤ n) says.generation_is counted.generation;
          };
          linked = member.0;
          page = member.1;
          upto = member.2;
          number = sym says.number_is ∙ counted.point_is;
        },
      ))
      (last_write_or_none counted.shown.written)

  counted_of : (s i epoch p : ℕ) → s ≤ stop → IsCounted run h s i epoch p → (e : ℕ) × IsOf run s i epoch e
  counted_of s i epoch p upto counted = let c = commit_seen s i epoch p upto counted in (c.1, c.2.of)

  content_epoch : (s i epoch p : ℕ) → (counted : IsCounted run h s i epoch p) → (run.nodes s i).content.epoch ≡ epoch
  content_epoch s i epoch p counted =
      one_complete_epoch (cuts counted.part) (run.nodes s i).content.epoch counted.front.epoch counted.content.epoch counted.position.epoch
      ∙ counted.epoch_is

  -- the node has the commit point of another one that was counted
  has_point : (t s i x j epoch point p : ℕ) → t ≤ stop → s ≤ t → x ≤ t → IsCounted run h s i epoch point → IsCounted run h x j epoch p → point ≤ p
      → Contains (run.nodes x j).content.points point
  has_point t s i x j epoch point p upto first second one other above =
      let mine = commit_seen s i epoch point (omega arith) one in
      let its = commit_seen x j epoch p (omega arith) other in
      let number : its.0.number ≡ p = its.2.number in
      let below : its.0.number ≤ other.front.complete = its.2.upto in
      let at : (run.nodes s i).content.epoch ≡ epoch = content_epoch s i epoch point one in
      let and_at : (run.nodes x j).content.epoch ≡ epoch = content_epoch x j epoch p other in
      let had : Contains (run.nodes s i).content.points point = (one.content.points point).1 (inr (
        mine.0,
        subst (λ (k : ℕ). IsLinkedRecord one.part k mine.0) (sym at) mine.2.linked,
        mine.2.page,
        mine.2.number,
      )) in
      fronts_reach h.readers (log_at h t) other.part one.part other.front (run.nodes x j).content (run.nodes s i).content point
      (log_is_sound run h stop t follows is upto)
      (λ f inside. at_later run h stop is x t second upto f (other.inner f inside))
      (λ f inside. at_later run h stop is s t first upto f (one.inner f inside))
      other.position other.content one.content (and_at ∙ sym at) had (omega arith)

  -- lo of a truncation of the log
  kept_by : (t : ℕ) (c : CutData) → t ≤ stop → Contains (cuts (log_at h t)) c → StaysKept run h t c
  kept_by t c upto inside =
      let until : FollowsUntil run t = until_earlier run t stop upto follows in
      let sound : IsSound h.readers (log_at h t) = log_is_sound run h stop t follows is upto in
      let its = cut_sent run h stop follows is t c upto inside in
      record {
        sent = λ d other order. lo_rises_by run t c d until its.0 other order;
        pages = λ k page q image order within low.
            let same : SameUpTo c.lo (log_at h t) c.epoch (log_at h t) k =
            same_views h.readers (log_at h t) c.epoch k c.lo sound (has_to run h stop follows is t k within) order
            (λ d among over below.
            lo_rises_by run t c d until its.0 (cut_sent run h stop follows is t d upto among).0 (omega arith)) in (
              same_pages h.readers (log_at h t) (log_at h t) c.epoch k c.lo page q image sound sound same low,
              same_pages h.readers (log_at h t) (log_at h t) k c.epoch c.lo page q image sound sound
                  (same_back c.lo (log_at h t) c.epoch (log_at h t) k same) low,
            );
      }

pub counted_is_durable : CountedIsDurable
counted_is_durable run h stop t s i epoch point follows is within order one many =
    let until : FollowsUntil run t = until_earlier run t stop within follows in
    let of = counted_of run h stop follows is s i epoch point (omega arith) one in
    let e : ℕ = of.0 in
    let opened : HasOpenedBy run t e epoch = opened_later run s t e epoch order of.1.opened in
    let reported : IsReportedBy run t e epoch point = (
      many.0,
      many.1,
      λ j among.
          let x = many.2 j among in
          let before : x.0 ≤ t = x.2 in
          let its = counted_of run h stop follows is x.0 j epoch x.1 (omega arith) x.4 in
          let itself : its.0 ≡ e = one_writer_by run t its.0 e epoch until (opened_later run x.0 t its.0 epoch before its.1.opened) opened in
          let upto : (run.nodes x.0 j).generation ≤ (run.engines e).generation =
          subst (λ (n : ℕ). (run.nodes x.0 j).generation ≤ (run.engines n).generation) itself its.1.generation in
          let asked : HasAsked run e x.0 =
          subst (λ (n : ℕ). HasAsked run n x.0) itself
          (opened_asked run x.0 its.0 epoch (until_earlier run x.0 stop (omega arith) follows) its.1.opened) in
          let counts : CountsUnder run e x.0 j = record { asked = asked; member = x.4.member; upto = upto } in (
            x.0,
            before,
            counts,
            content_epoch run h stop follows is x.0 j epoch x.1 x.4,
            has_point run h stop follows is t s i x.0 j epoch point x.1 within order before one x.4 x.3,
          ),
    ) in
    (e, (opened, inr reported))

pub held_lo_is_kept : HeldLoIsKept
held_lo_is_kept run h stop t s i c follows is order upto inside =
    let has = is.held s i (omega arith) in
    let among : Contains (cuts (log_at h s)) c = part_cuts has.0 (log_at h s) has.1 c ((has.2.cuts c).0 inside) in
    kept_by run h stop follows is t c upto (part_cuts (log_at h s) (log_at h t) (at_later run h stop is s t order upto) c among)
