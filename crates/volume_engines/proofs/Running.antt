-- A run of guards and machines keeps the rules, one moment after another.
use Rattle.std.proofs.Common.{◌≡◌, ◌≢◌, ℕ, zero, suc, ◌<◌, ◌≤◌, ◌⊎◌, ⊎_elim, inr, List, [], true, IsTrue, refl, sym, ◌∙◌, subst, ap, arith}
use Rattle.std.specs.List.{Contains}
use Rattle.redo_core.specs.Data.{CutData}
use Rattle.redo_core.specs.declared.facts.Fact.{Fact}
use Rattle.messages.specs.Summaries.{SummaryData}
use Rattle.segment_theorems.specs.State.{State}
use Rattle.segment_theorems.specs.Means.{Means}
use Rattle.segment_theorems.proofs.Bare.{empty_means}
use Rattle.replica.specs.Parts.{ReplicaData}
use Rattle.replica.specs.declared.requests.Request.{Request as SegmentRequest}
use Rattle.replica.specs.declared.requests.Request.TheVariants as segment
use Rattle.guard.specs.declared.requests.Admission.{Admission}
use Rattle.guard.specs.declared.requests.Request.{Request}
use Rattle.guard.specs.declared.requests.Request.TheVariants as request
use Rattle.guard.specs.declared.replies.Reply.{Reply}
use Rattle.guard.specs.declared.replies.Reply.TheVariants as reply
use Rattle.guard.specs.Asked.{ReplacesSegment}
use Rattle.guard.specs.Data.{GuardData, fenced_to, accepting, admitted_by, around}
use Rattle.guard.specs.Guarding.{IsUnder, IsFencedBelow, HasLater, Declines, IsGuardReply}
use Rattle.volume.specs.declared.actions.Action.TheVariants.{Ask}
use Rattle.volume_theorems.specs.Nodes.{Content, VolumeNode, GrowsTo, volume_node, with_generation, with_vote}
use Rattle.volume_theorems.specs.Runs.{VolumeRun, Move}
use Rattle.volume_theorems.specs.Runs.Move.{Rests, Learns, IsReplaced, IsFenced, Accepts, IsAdmitted}
use Rattle.volume_theorems.specs.Opening.{IsCutSent}
use Rattle.volume_theorems.specs.Contents.{IsContentOf}
use Rattle.volume_theorems.specs.Proposing.{MayAdmit}
use Rattle.volume_theorems.specs.Protocol.{Moves}
use Rattle.volume_theorems.specs.Stopping.{FollowsUntil}
use Rattle.volume_theorems.proofs.Stopping.{follows_on}
use Rattle.volume_guards.specs.Guards.{vote_of, as_node, KeepsFacts}
use Rattle.volume_guards.proofs.Guards.{not_later}
use Rattle.volume_logs.specs.Histories.{History, log_at}
use Rattle.volume_logs.specs.Emitting.{IsEmitted}
use Rattle.volume_logs.proofs.Moving.{nothing_held, emitted_first}
use Rattle.volume_engines.specs.Lives.{Life, Guards}
use Rattle.volume_engines.specs.World.{HoldsPart, HasGuards}
use Rattle.volume_engines.specs.Following.{plain_move, move_shown, Executes, IsNextMoment, IsRecorded, LivesFollowOn}
use Rattle.volume_engines.specs.Proposals.{IsLifeIn}
use Rattle.volume_engines.specs.Running.{HasAskedNode, ServesLife, ServesPeer, MovesAlone, BeginsEmpty, IsRunOfMachines, MachinesKeepRules}
use Rattle.volume_engines.proofs.Admissions.{IsAdmission, may_admit}
use Rattle.volume_engines.proofs.Sending.{IsOwnGeneration, IsOwnProposal, Right}
use Rattle.volume_engines.proofs.Knowing.{Own, Allowed}
use Rattle.volume_engines.proofs.Later.{proposal_later}
use Rattle.volume_engines.proofs.Naming.{names_hold_before}
use Rattle.volume_engines.proofs.Steps.{right_action}
use Rattle.volume_engines.proofs.Bringing.{BringsTo, Carries, carries}
use Rattle.volume_engines.proofs.Supplying.{life_brings}
use Rattle.volume_engines.proofs.Following.{node_stays, goes_on}
use Rattle.volume_engines.proofs.Recording.{moments_rise, fewer_steps, emitted_next, guards_next}

-- ---- the move that a reply shows
module _ (run : VolumeRun) (h : History) (content : ReplicaData → Content) (guards : Guards) (e s t node : ℕ) (Q : SummaryData → Type 0) (F : Fact → Type 0)
    (follows : FollowsUntil run t) (emitted : IsEmitted run h t) (guarded : HasGuards run h t content guards) (order : s ≤ t) (told : Reply) where
  abbrev Old : GuardData
  Old = guards t node

  abbrev New : GuardData
  New = guards (suc t) node

  abbrev Made : Move → Type 0
  Made move = Moves run t node move (as_node content Old) (as_node content New)

  by_reply : (asked : Request) (r : Reply) → told ≡ r → Made (move_shown e asked r) → Made (move_shown e asked told)
  by_reply asked r same made = subst (λ (x : Reply). Made (move_shown e asked x)) (sym same) made

  stays : (asked : Request) (r : Reply) → told ≡ r → move_shown e asked r ≡ Rests → New ≡ Old → Made (move_shown e asked told)
  stays asked r same rests unchanged =
      subst Made (sym (ap (λ (x : Reply). move_shown e asked x) same ∙ rests)) (ap (λ (g : GuardData). as_node content g) unchanged)

  declined : (asked : Request) → ((n : ℕ) → move_shown e asked (reply.Stale n) ≡ Rests) → ((n : ℕ) → move_shown e asked (reply.Fresh n) ≡ Rests)
      → Declines Old told New → Made (move_shown e asked told)
  declined asked stale fresh says = ⊎_elim
      (λ member. stays asked (reply.Stale Old.generation) member.1 (stale Old.generation) says.1)
      (λ out. stays asked (reply.Fresh Old.birth) out.1 (fresh Old.birth) says.1)
      says.0

  -- ---- moves
  fenced : (generation : ℕ) → IsOwnGeneration run e generation → IsFencedBelow Old generation → New ≡ fenced_to Old generation → Made (IsFenced e)
  fenced generation own below is =
      let low : Old.generation < generation = below.1 in
      record {
        member = below.0;
        above = subst (λ (n : ℕ). Old.generation < n) (sym own) low;
        new_is = ap (λ (g : GuardData). as_node content g) is ∙ ap (λ (n : ℕ). with_generation (as_node content Old) n) (sym own);
      }

  accepted : (generation birth : ℕ) (cut : CutData) → IsOwnGeneration run e generation → IsOwnProposal run e s cut → IsUnder Old generation birth
      → ¬ (HasLater Old.accepted generation cut.epoch) → New ≡ accepting Old generation cut → Made (Accepts e cut.epoch)
  accepted generation birth cut own proposal under none is =
      let now : IsOwnProposal run e t cut = proposal_later run e s t cut order proposal in
      record {
        under = (under.0, sym under.1 ∙ sym own);
        proposed = now.1;
        latest = not_later Old.accepted generation (run.engines e).generation cut.epoch own none;
        new_is = ap (λ (g : GuardData). as_node content g) is
            ∙ (ap (λ (n : ℕ). with_vote (as_node content Old) n cut) (sym own)
            ∙ ap (λ (c : CutData). with_vote (as_node content Old) (run.engines e).generation c) (sym now.0));
      }

  admitted : (asked : Admission) → IsAdmission run h e s node asked → ¬ (IsTrue Old.is_member) → MayAdmit run e node t (vote_of asked.accepted)
      → New ≡ admitted_by Old asked → Made (IsAdmitted e)
  admitted asked admission out may is = record {
    out = out;
    vote = vote_of asked.accepted;
    admits = may;
    new_is = ap (λ (g : GuardData). as_node content g) is
        ∙ ap (λ (n : ℕ). volume_node Old.birth true n (vote_of asked.accepted) (content Old.replica)) (sym admission.generation);
  }

  learnt : New ≡ around Old New.replica → GrowsTo (content Old.replica) (content New.replica)
      → ((c : CutData) → Contains (content New.replica).cuts c → IsCutSent run t c) → Made Learns
  learnt is grows sent = record { same = ap (λ (g : GuardData). as_node content g) is; grows = grows; sent = λ c inside. inr (sent c inside) }

  exchanged : New ≡ around Old New.replica → ¬ (IsTrue Old.is_member)
      → ((c : CutData) → Contains (content New.replica).cuts c → IsCutSent run t c) → Made IsReplaced
  exchanged is out sent = record { out = out; same = ap (λ (g : GuardData). as_node content g) is; sent = sent }

  plainly : (asked : SegmentRequest) → ¬ (IsTrue Old.is_member × ReplacesSegment asked) → New ≡ around Old New.replica
      → KeepsFacts run t (request.Plain asked) (content Old.replica) (content New.replica) → Made (plain_move asked)
  plainly (segment.Open roster) may is keeps = exchanged is (λ member. may (member, tt)) keeps.sent
  plainly segment.Finish may is keeps = exchanged is (λ member. may (member, tt)) keeps.sent
  plainly asked may is keeps = learnt is (keeps.grows (λ none. none)) keeps.sent

  plain_shown : (asked : SegmentRequest) → IsGuardReply Old (request.Plain asked) told New
      → KeepsFacts run t (request.Plain asked) (content Old.replica) (content New.replica) → Made (move_shown e (request.Plain asked) told)
  plain_shown asked says keeps = ⊎_elim
      (λ no. stays (request.Plain asked) reply.Member no.2 refl no.3)
      (λ yes. by_reply (request.Plain asked) (reply.Plain yes.2.0) yes.2.2 (plainly asked yes.0 yes.1 keeps))
      says

  shown : (asked : Request) → Right run h e Q F s node asked → IsGuardReply Old asked told New
      → KeepsFacts run t asked (content Old.replica) (content New.replica) → Made (move_shown e asked told)
  shown request.Status right says keeps =
      stays request.Status (reply.Status Old.generation Old.birth Old.is_member says.0 Old.accepted) says.2 refl says.3
  shown (request.Fence generation) right says keeps = ⊎_elim
      (λ yes. by_reply (request.Fence generation) (reply.Fenced generation Old.birth Old.accepted) yes.1 (fenced generation right yes.0 yes.2))
      (λ no. declined (request.Fence generation) (λ n. refl) (λ n. refl) no.1)
      says
  shown (request.As generation birth asked) right says keeps = ⊎_elim
      (λ no. stays (request.As generation birth asked) reply.Unguarded no.1 refl no.2)
      (λ may. ⊎_elim
      (λ yes.
      by_reply (request.As generation birth asked) (reply.Headed generation birth yes.3.0) yes.3.2
      (learnt yes.2 (keeps.grows (λ none. none)) keeps.sent))
      (λ no. declined (request.As generation birth asked) (λ n. refl) (λ n. refl) no.2)
      may)
      says
  shown (request.Propose generation birth cut) right says keeps = ⊎_elim
      (λ yes.
      by_reply (request.Propose generation birth cut) (reply.Accepted generation birth cut.epoch) yes.2
      (accepted generation birth cut right.0 right.1 yes.0 yes.1 yes.3))
      (λ no. declined (request.Propose generation birth cut) (λ n. refl) (λ n. refl) no.1)
      says
  shown (request.Admit asked) right says keeps = ⊎_elim
      (λ no. stays (request.Admit asked) reply.Member no.1 refl no.2)
      (λ out. ⊎_elim
      (λ no. stays (request.Admit asked) (reply.Stranger Old.birth) no.2 refl no.3)
      (λ known. ⊎_elim
      (λ yes.
      by_reply (request.Admit asked) (reply.Admitted asked.generation Old.birth) yes.1
      (admitted asked right known.0
      (may_admit run h t content guards e s t node asked follows emitted guarded order (omega arith) right known.2.0 known.1 known.2.1 yes.0) yes.2))
      (λ no. stays (request.Admit asked) (reply.Behind known.2.0.epoch known.2.0.complete) no.1 refl no.2)
      known.2.2)
      out)
      says
  shown (request.Plain asked) right says keeps = plain_shown asked says keeps

-- ---- a request
module _ (run : VolumeRun) (h : History) (content : ReplicaData → Content) (guards : Guards) (t node : ℕ) (asked : Request) (told : Reply)
    (follows : FollowsUntil run t) (emitted : IsEmitted run h t) (guarded : HasGuards run h t content guards) (next : IsNextMoment run h content guards t)
    (ex : Executes run guards t node asked told) where
  -- what it brings is of the log
  abbrev IsBrought : List Fact → Type 0
  IsBrought brought = BringsTo h.readers (log_at h t) (guards t node).replica asked brought

  -- what the next move leaves
  abbrev Left : Type 0
  Left = FollowsUntil run (suc t) × ((i : ℕ) → HoldsPart h t content (guards (suc t) i))

  carried : (brought : List Fact) → IsBrought brought → Carries run h content guards t node asked
  carried brought brings = carries run h content guards t node asked told brought follows emitted (guarded.holds t node (omega arith)) next brings ex.replies

  all_hold : Carries run h content guards t node asked → (i : ℕ) → HoldsPart h t content (guards (suc t) i)
  all_hold carried i = ⊎_elim
      (λ (here : i ≡ node). subst (λ (x : ℕ). HoldsPart h t content (guards (suc t) x)) (sym here) carried.holds)
      (λ (apart : i ≢ node). subst (λ (g : GuardData). HoldsPart h t content g) (sym (ex.others i apart)) (guarded.holds t i (omega arith)))
      (let way : (i ≡ node) ⊎ (i ≢ node) = grind arith in way)

  executed : (e : ℕ) → Carries run h content guards t node asked
      → Moves run t node (move_shown e asked told) (as_node content (guards t node)) (as_node content (guards (suc t) node))
      → run.moves t ≡ move_shown e asked told → Left
  executed e carried made same = (
    goes_on run h t content guards node asked told (move_shown e asked told) follows (λ i. guarded.nodes t i (omega arith)) next ex made same,
    all_hold carried,
  )

  -- a life has asked it
  served : (e : ℕ) (life : Life) (count whole n : ℕ) → IsLifeIn run h t content guards e life count → count ≤ whole → IsRecorded h life whole t
      → n < count → life.moments n < t → Contains (life.actions n) (Ask node asked) → run.moves t ≡ move_shown e asked told → Left
  served e life count whole n is all written step early inside same =
      let Q : SummaryData → Type 0 = Allowed (life.states (suc n)).phase in
      let right : Right run h e Q (Own life n) (life.moments n) node asked =
      right_action run h t content guards e life count is n (Ask node asked) step inside in
      let brings = life_brings run h t content guards e life count whole is all written n step early (guards t node).replica Q node asked right in
      let x : Carries run h content guards t node asked = carried brings.0 brings.1 in
      executed e x (shown run h content guards e (life.moments n) t node Q (Own life n) follows emitted guarded (omega arith) told asked right ex.replies x.keeps) same

pub lives_follow_on : LivesFollowOn
lives_follow_on run h t content guards e life count is next written n node asked told step early inside ex same =
    (served run h content guards t node asked told is.follows is.emitted is.guarded next ex e life count count n is (omega arith) written step early inside
    same).0

-- ---- one moment after another
module _ (run : VolumeRun) (h : History) (stop : ℕ) (content : ReplicaData → Content) (guards : Guards) (is : IsRunOfMachines run h stop content guards) where
  -- what is kept until the moment
  abbrev Kept : ℕ → Type 0
  Kept t = FollowsUntil run t × IsEmitted run h t × HasGuards run h t content guards

  -- what the next move leaves
  abbrev Next : ℕ → Type 0
  Next t = FollowsUntil run (suc t) × ((i : ℕ) → HoldsPart h t content (guards (suc t) i))

  life_in : (t e node : ℕ) (asked : Request) → Kept t → (x : HasAskedNode run h guards t e node asked)
      → IsLifeIn run h t content guards e x.life (suc x.step)
  life_in t e node asked kept x =
      let within : x.step < x.count = x.within in
      let sent : x.life.moments x.step < t = x.sent in
      record {
        follows = kept.0;
        emitted = kept.1;
        guarded = kept.2;
        lives = fewer_steps run guards e x.life x.count (suc x.step) (omega arith) x.lives;
        readers = x.readers;
        names = names_hold_before run guards e x.life x.count (suc x.step) (run.engines e) x.lives x.names (omega arith);
        upto = λ n step.
            let early : x.life.moments n ≤ x.life.moments x.step = moments_rise run guards e x.life x.count x.lives n x.step (omega arith) within in
            omega arith;
      }

  serves_life : (t : ℕ) → t < stop → Kept t → ServesLife run h guards t → Next t
  serves_life t low kept turn =
      let x = turn.asks in
      let within : x.step < x.count = x.within in
      served run h content guards t turn.node turn.asked turn.told kept.0 kept.1 kept.2 (is.next t low) turn.executes turn.engine x.life (suc x.step) x.count
      x.step (life_in t turn.engine turn.node turn.asked kept x) (omega arith) (x.written kept.0) (omega arith) x.sent x.asks turn.move

  serves_peer : (t : ℕ) → t < stop → Kept t → ServesPeer run h guards t → Next t
  serves_peer t low kept turn =
      let asked : Request = request.Plain turn.asked in
      let x : Carries run h content guards t turn.node asked =
      carried run h content guards t turn.node asked turn.told kept.0 kept.1 kept.2 (is.next t low) turn.executes turn.brought turn.brings in
      executed run h content guards t turn.node asked turn.told kept.0 kept.1 kept.2 (is.next t low) turn.executes 0 x
      (plain_shown run h content guards 0 t t turn.node (λ summary. Unit {0}) (λ f. Unit {0}) kept.0 kept.1 kept.2 (omega arith) turn.told turn.asked
      turn.executes.replies x.keeps) turn.move

  -- ---- a move without a request
  module _ (t : ℕ) (low : t < stop) (kept : Kept t) (alone : MovesAlone run h guards t) where
    own_means : (facts : List Fact) → Means h.readers (log_at h t) facts (guards (suc t) (run.actor t)).replica.cached.segment
        → HoldsPart h t content (guards (suc t) (run.actor t))
    own_means facts means = record { part = facts; means = means; has = (is.next t low).has (run.actor t) facts means }

    own_holds : HoldsPart h t content (guards (suc t) (run.actor t))
    own_holds =
        let log : List Fact = log_at h t in
        ⊎_elim
        (λ empty. own_means [] (subst (λ (s : State). Means h.readers log [] s) (sym empty) (empty_means h.readers log)))
        (λ keeps.
        let x : HoldsPart h t content (guards t (run.actor t)) = kept.2.holds t (run.actor t) (omega arith) in
        own_means x.part (keeps x.part x.means))
        alone.segment

    moves_alone : Next t
    moves_alone = (
      follows_on run t kept.0 alone.moves (λ i apart.
          node_stays run h content guards t i (is.next t low) (kept.2.nodes t i (omega arith)) (alone.others i apart)),
      λ i. ⊎_elim
          (λ (here : i ≡ run.actor t). subst (λ (x : ℕ). HoldsPart h t content (guards (suc t) x)) (sym here) own_holds)
          (λ (apart : i ≢ run.actor t).
          subst (λ (g : GuardData). HoldsPart h t content g) (sym (alone.others i apart)) (kept.2.holds t i (omega arith)))
          (let way : (i ≡ run.actor t) ⊎ (i ≢ run.actor t) = grind arith in way),
    )

  -- ---- all moments
  kept_on : (t : ℕ) → suc t ≤ stop → Kept t → Next t → Kept (suc t)
  kept_on t upto kept x = (
    x.0,
    emitted_next run h stop t content guards kept.2 (is.next t (omega arith)) x.1 is.history upto kept.1 x.0,
    guards_next run h stop t content guards kept.2 (is.next t (omega arith)) x.1 is.history upto kept.1 x.0,
  )

  first_holds : (i : ℕ) → HoldsPart h 0 content (guards 0 i)
  first_holds i =
      let x : BeginsEmpty run h content (guards 0 i) i = is.begins i in
      record {
        part = [];
        means = subst (λ (s : State). Means h.readers (log_at h 0) [] s) (sym x.segment) (empty_means h.readers (log_at h 0));
        has = subst (λ (n : VolumeNode). IsContentOf [] n.content) x.node (nothing_held (run.nodes 0 i) x.nothing);
      }

  first_kept : Kept 0
  first_kept =
      let follows : FollowsUntil run 0 = record {
        overlap = is.overlap;
        begins = λ i. (is.begins i).nothing;
        moves = λ t low. absurd (omega arith);
        others = λ t i low. absurd (omega arith);
      } in (
        follows,
        emitted_first run h follows is.history.blank,
        record {
          nodes = λ s i early.
              let now : s ≡ 0 = omega arith in
              subst (λ (x : ℕ). run.nodes x i ≡ as_node content (guards x i)) (sym now) (is.begins i).node;
          holds = λ s i early.
              let now : s ≡ 0 = omega arith in
              subst (λ (x : ℕ). HoldsPart h x content (guards x i)) (sym now) (first_holds i);
        },
      )

  kept_to : (t : ℕ) → t ≤ stop → Kept t
  kept_to zero upto = first_kept
  kept_to (suc t) upto =
      let before : Kept t = kept_to t (omega arith) in
      let low : t < stop = omega arith in
      kept_on t upto before (⊎_elim
      (λ turn. serves_life t low before turn)
      (λ other. ⊎_elim (λ turn. serves_peer t low before turn) (λ alone. moves_alone t low before alone) other)
      (is.turns t low))

pub machines_keep_rules : MachinesKeepRules
machines_keep_rules run h stop content guards is = kept_to run h stop content guards is stop (omega arith)
