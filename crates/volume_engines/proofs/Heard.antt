-- What a reply that an engine counts says of the node that gave it.
use Rattle.std.proofs.Common.{◌≡◌, ℕ, suc, ◌<◌, ◌≤◌, IsTrue, sym, ◌∙◌, subst, ap, arith}
use Rattle.redo_core.specs.Sound.{IsSound}
use Rattle.redo_core.proofs.Members.{each}
use Rattle.messages.specs.Summaries.{SummaryData}
use Rattle.segment_core.specs.declared.answers.Front.{Front}
use Rattle.replica.specs.declared.requests.Request.{Request as SegmentRequest}
use Rattle.replica.specs.declared.replies.Reply.{Reply as SegmentReply}
use Rattle.replica.specs.declared.replies.Reply.TheVariants as told
use Rattle.replica.specs.Machine.{IsReply}
use Rattle.replica.specs.Parts.{ReplicaData}
use Rattle.guard.specs.declared.requests.Request.{Request}
use Rattle.guard.specs.declared.replies.Reply.TheVariants as reply
use Rattle.guard.specs.Guarding.{IsUnder}
use Rattle.volume.specs.declared.actions.Action.TheVariants.{Ask}
use Rattle.volume.specs.declared.phases.Session.{Session}
use Rattle.volume.specs.declared.plans.CutPlan.{CutPlan}
use Rattle.volume.specs.Opening.{IsKnownAt}
use Rattle.volume.specs.Sessions.{IsOwn}
use Rattle.volume_theorems.specs.Nodes.{Content, VolumeNode, IsOfGeneration}
use Rattle.volume_theorems.specs.Runs.{VolumeRun}
use Rattle.volume_theorems.specs.Opening.{IsInQuorum, HasShown, AnswersUnder}
use Rattle.volume_theorems.specs.Contents.{IsContentOf}
use Rattle.volume_theorems.proofs.Guards.{asked_later}
use Rattle.volume_guards.specs.Guards.{as_node}
use Rattle.volume_logs.specs.Histories.{History, log_at}
use Rattle.volume_logs.proofs.Sound.{log_is_sound}
use Rattle.volume_engines.specs.Lives.{Life, Guards, WasGiven}
use Rattle.volume_engines.specs.World.{HoldsPart}
use Rattle.volume_engines.specs.Proposals.{IsLifeIn}
use Rattle.volume_engines.proofs.Tables.{some_same}
use Rattle.volume_engines.proofs.Admissions.{same_front}
use Rattle.volume_engines.proofs.Sending.{MayAsk, may_ask, Right, RightAction, AllRight}
use Rattle.volume_engines.proofs.Replies.{IsHeaded, headed_says}
use Rattle.volume_engines.proofs.Shown.{front_says}
use Rattle.volume_engines.proofs.Knowing.{Own, KnowsSession, IsKnown}

-- The reply that step n hears was given under the generation and birth, to a request that was right to send.
pub record IsHeard (run : VolumeRun) (guards : Guards) (e : ℕ) (life : Life) (n : ℕ) (Q : SummaryData → Type 0) (node generation birth : ℕ) (shown : SegmentReply) : Type 0 where
  pub before : life.given n < life.moments n
  pub inner : SegmentRequest
  pub moment : ℕ
  pub sent : moment ≤ life.given n
  pub right : MayAsk run e Q moment inner
  pub under : IsUnder (guards (life.given n) node) generation birth
  pub replies : IsReply (guards (life.given n) node).replica inner shown (guards (suc (life.given n)) node).replica

pub heard : (run : VolumeRun) (h : History) (guards : Guards) (e : ℕ) (life : Life) (n : ℕ) (Q : SummaryData → Type 0) (node generation birth : ℕ) (shown : SegmentReply)
    → ((m : ℕ) → m < n → AllRight run h e Q (Own life m) (life.moments m) (life.actions m))
    → WasGiven run guards e life n node (reply.Headed generation birth shown) → IsHeard run guards e life n Q node generation birth shown
heard run h guards e life n Q node generation birth shown sent given =
    let p : ℕ = life.given n in
    let x : IsHeaded (guards p node) (guards (suc p) node) given.asked generation birth shown =
    headed_says (guards p node) given.asked generation birth shown (guards (suc p) node) given.replies in
    let m : ℕ = given.sent.0 in
    let right : Right run h e Q (Own life m) (life.moments m) node given.asked =
    each (RightAction run h e Q (Own life m) (life.moments m)) (life.actions m) (Ask node given.asked) (sent m given.sent.1) given.sent.3 in
    record {
      before = given.before;
      inner = x.inner;
      moment = life.moments m;
      sent = given.sent.2;
      right = may_ask run h e Q (Own life m) (life.moments m) x.inner
          (subst (λ (r : Request). Right run h e Q (Own life m) (life.moments m) node r) x.asked_is right);
      under = x.under;
      replies = x.replies;
    }

module _ (run : VolumeRun) (h : History) (stop : ℕ) (content : ReplicaData → Content) (guards : Guards) (e : ℕ) (life : Life) (count : ℕ)
    (is : IsLifeIn run h stop content guards e life count) (n : ℕ) (step : n < count) (Q : SummaryData → Type 0) (s : Session)
    (k : KnowsSession run guards e life (life.moments n) s) (node generation birth : ℕ) (own : IsOwn s node generation birth) where
  module _ (shown : SegmentReply) (x : IsHeard run guards e life n Q node generation birth shown) where
    early : life.given n ≤ stop
    early = let one : life.given n < life.moments n = x.before in let two : life.moments n ≤ stop = is.upto n step in omega arith

    node_is : run.nodes (life.given n) node ≡ as_node content (guards (life.given n) node)
    node_is = is.guarded.nodes (life.given n) node early

    pub own_under : IsOfGeneration (run.nodes (life.given n) node) (run.engines e).generation
    own_under = (
      subst (λ (y : VolumeNode). IsTrue y.is_member) (sym node_is) x.under.0,
      ap (λ (y : VolumeNode). y.generation) node_is ∙ (sym x.under.1 ∙ (own.0 ∙ (k.generation ∙ sym is.names.generation))),
    )

    -- what it has
    pub own_part : HoldsPart h (life.given n) content (guards (life.given n) node)
    own_part = is.guarded.holds (life.given n) node early

    pub own_content : IsContentOf own_part.part (run.nodes (life.given n) node).content
    own_content = subst (λ (y : VolumeNode). IsContentOf own_part.part y.content) (sym node_is) own_part.has

    -- a node of the quorum that was asked after that was gathered
    pub own_shown : IsInQuorum run e node → (run.engines e).gathered ≤ life.given n → HasShown run e node (life.given n)
    own_shown among after =
        let p : ℕ = (run.engines e).fenced node in
        let first : p < (run.engines e).gathered = k.gathered.before node among in
        let late : life.moments n ≤ stop = is.upto n step in
        let one : life.given n < life.moments n = x.before in
        let was : run.nodes p node ≡ as_node content (guards p node) = is.guarded.nodes p node (omega arith) in
        let known : (guards p node).birth ≡ birth = some_same (guards p node).birth birth (sym (k.own node among) ∙ own.1) in
        record {
          after = after;
          under = own_under;
          birth = ap (λ (y : VolumeNode). y.birth) was ∙ (known ∙ (x.under.2 ∙ sym (ap (λ (y : VolumeNode). y.birth) node_is)));
        }

  -- a front that the plan asks for
  pub own_known : (plan : CutPlan) (front : Front) → IsHeard run guards e life n Q node generation birth (told.Front front) → node < run.roster
      → IsKnownAt plan front → IsKnown run h e (life.moments n) node plan
  own_known plan front x within at =
      let p : ℕ = life.given n in
      let says = front_says run e x.moment Q (guards p node).replica (guards (suc p) node).replica x.inner front x.right x.replies in
      let hold = own_part (told.Front front) x in
      let one : p < life.moments n = x.before in
      let late : life.moments n ≤ stop = is.upto n step in
      let upto : p ≤ stop = omega arith in
      let sound : IsSound h.readers (log_at h p) = log_is_sound run h stop p is.follows is.emitted upto in
      let shows = says.1.facts h.readers (log_at h p) hold.part hold.means.0 sound hold.means.1 in
      let same : front ≡ says.1.front = same_front front says.1.front says.1.is in
      let epoch : front.epoch ≡ hold.means.0.epoch = ap (λ (f : Front). f.epoch) same ∙ shows.epoch in
      let complete : front.complete ≡ hold.means.0.complete = ap (λ (f : Front). f.complete) same ∙ shows.complete in
      let far : plan.cut.lo ≤ front.complete = at.1 in
      let answers : AnswersUnder run e p node = record {
        asked = asked_later run e x.moment p x.sent says.0;
        under = own_under (told.Front front) x;
      } in
      record {
        within = within;
        moment = p;
        before = x.before;
        answers = answers;
        epoch = front.epoch;
        next = at.0;
        front = record {
          part = hold.part;
          inner = hold.means.1.part;
          content = own_content (told.Front front) x;
          front = hold.means.0;
          position = hold.means.1.position;
          epoch_is = sym epoch;
          reached = omega arith;
        };
      }
