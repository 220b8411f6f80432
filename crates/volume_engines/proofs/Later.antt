-- What an engine knows it knows at each later moment.
use Rattle.std.proofs.Common.{ℕ, ◌<◌, ◌≤◌, List, [], Bool, Option, arith}
use Rattle.redo_core.specs.Data.{CutData}
use Rattle.redo_core.specs.Sets.{IsPart}
use Rattle.redo_core.specs.declared.facts.Fact.{Fact}
use Rattle.redo_core.specs.declared.facts.Fact.TheVariants.{Record}
use Rattle.redo_core.proofs.FactParts.{part_records}
use Rattle.segment_theorems.specs.State.{State}
use Rattle.segment_theorems.specs.Means.{Means}
use Rattle.guard.specs.declared.requests.AcceptedCut.{AcceptedCut}
use Rattle.volume.specs.declared.phases.Session.{Session}
use Rattle.volume.specs.declared.phases.Stage.{Stage}
use Rattle.volume.specs.declared.phases.Stage.TheVariants as stage
use Rattle.volume.specs.declared.phases.Writing.{Writing}
use Rattle.volume_theorems.specs.Runs.{VolumeRun}
use Rattle.volume_theorems.specs.Proposing.{MayPropose}
use Rattle.volume_logs.specs.Histories.{History, log_at}
use Rattle.volume_logs.specs.Emitting.{IsEmitted}
use Rattle.volume_theorems.proofs.Guards.{asked_later}
use Rattle.volume_theorems.proofs.Proposing.{sent_later}
use Rattle.volume_logs.proofs.Epochs.{at_later}
use Rattle.volume_engines.specs.Lives.{Life, Guards}
use Rattle.volume_engines.proofs.Admissions.{unites_later}
use Rattle.volume_engines.proofs.Sending.{IsOwnProposal, HasOpenedAt}
use Rattle.volume_engines.proofs.Knowing.{KnowsSession, HasGiven, KnowsUnion, HasVotes, KnowsOpen, KnowsStage}

pub means_later : (readers : ℕ) (log larger facts : List Fact) (s : State) → IsPart log larger → Means readers log facts s → Means readers larger facts s
means_later readers log larger facts s inner m = (
  m.0,
  record {
    part = λ f inside. inner f (m.1.part f inside);
    position = m.1.position;
    book = m.1.book;
    epoch = m.1.epoch;
    readers = m.1.readers;
    base = m.1.base;
    of_log = λ r inside. part_records log larger inner r (m.1.of_log r inside);
    of_facts = m.1.of_facts;
    kept = m.1.kept;
    versions = m.1.versions;
    images = m.1.images;
  },
)

-- a proposal may be made from then on
pub may_later : (run : VolumeRun) (e k s t : ℕ) → s ≤ t → MayPropose run e k s → MayPropose run e k t
may_later run e k s t order p = record {
  union = p.union;
  unites = unites_later run e s t p.union order p.unites;
  next = p.next;
  of_epoch = p.of_epoch;
  known = (p.known.0, p.known.1, λ i among. let x = p.known.2 i among in let before : x.0 < s = x.1 in (x.0, omega arith, x.2, x.3, x.4));
  best = p.best;
  greatest = p.greatest;
  choice = p.choice;
}

pub proposal_later : (run : VolumeRun) (e s t : ℕ) (cut : CutData) → s ≤ t → IsOwnProposal run e s cut → IsOwnProposal run e t cut
proposal_later run e s t cut order is = (is.0, may_later run e cut.epoch s t order is.1)

votes_later : (run : VolumeRun) (e s t k : ℕ) → s ≤ t → HasVotes run e s k → HasVotes run e t k
votes_later run e s t k order votes = (votes.0, votes.1, λ i among. let x = votes.2 i among in let before : x.0 < s = x.1 in (x.0, omega arith, x.2))

pub open_later : (run : VolumeRun) (e s t : ℕ) (F G : Fact → Type 0) (w : Writing) → s ≤ t → ((f : Fact) → F f → G f) → KnowsOpen run e s F w → KnowsOpen run e t G w
open_later run e s t F G w order wider k =
    (asked_later run e s t order k.0, sent_later run s t w.cut order k.1, k.2, λ r inside. wider (Record r) (k.3 r inside))

pub opened_later : (run : VolumeRun) (e s t epoch point : ℕ) → s ≤ t → HasOpenedAt run e s epoch point → HasOpenedAt run e t epoch point
opened_later run e s t epoch point order is = (record { own = is.0.own; accepted = votes_later run e s t epoch order is.0.accepted }, is.1)

pub session_later : (run : VolumeRun) (guards : Guards) (e : ℕ) (life : Life) (s t : ℕ) (x : Session) → s ≤ t → KnowsSession run guards e life s x
    → KnowsSession run guards e life t x
session_later run guards e life s t x order k = record {
  generation = k.generation;
  gathered = k.gathered;
  upto = let before : (run.engines e).gathered ≤ s = k.upto in omega arith;
  quorum = k.quorum;
  long = k.long;
  own = k.own;
}

pub given_later : (run : VolumeRun) (e s t i : ℕ) (facts more : List Fact) → s ≤ t → IsPart facts more → HasGiven run e s facts i → HasGiven run e t more i
given_later run e s t i facts more order inner has =
    let before : has.0 < s = has.1 in
    (has.0, omega arith, has.2, (has.3.0, λ f inside. inner f (has.3.1 f inside), has.3.2))

module _ (run : VolumeRun) (h : History) (stop e s t : ℕ) (emitted : IsEmitted run h stop) (order : s ≤ t) (upto : t ≤ stop) where
  pub union_later : (u : State) (left : List Bool) → KnowsUnion run h e s u left → KnowsUnion run h e t u left
  union_later u left k = record {
    facts = k.facts;
    means = means_later h.readers (log_at h s) (log_at h t) k.facts u (at_later run h stop emitted s t order upto) k.means;
    given = λ i among unmarked. given_later run e s t i k.facts k.facts order (λ f inside. inside) (k.given i among unmarked);
  }

  pub stage_later : (u : State) (pair : Option AcceptedCut) (st : Stage) → KnowsStage run h e s u pair st → KnowsStage run h e t u pair st
  stage_later u pair (stage.Pulling left) k = union_later u left k
  stage_later u pair (stage.Spreading plan known) k = (
    union_later u [] k.0,
    k.1,
    λ i marked.
        let x = k.2 i marked in
        let before : x.moment < s = x.before in
        record { within = x.within; moment = x.moment; before = omega arith; answers = x.answers; epoch = x.epoch; next = x.next; front = x.front },
  )
  stage_later u pair (stage.Proposing plan accepted) k = (
    union_later u [] k.0,
    proposal_later run e s t plan.cut order k.1,
    λ i marked.
        let x = k.2 i marked in
        let before : x.1.0 < s = x.1.1 in
        (x.0, (x.1.0, omega arith, x.1.2)),
    k.3,
  )
  stage_later u pair (stage.Taking plan reported) k =
      (union_later u [] k.0, proposal_later run e s t plan.cut order k.1, votes_later run e s t plan.cut.epoch order k.2, k.3)
