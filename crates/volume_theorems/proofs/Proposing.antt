-- Where votes and truncations come from.
use Rattle.std.proofs.Common.{◌≡◌, ℕ, zero, suc, ◌<◌, ◌≤◌, ⊎_elim, List, Option, Some, None, refl, sym, ◌∙◌, subst, ap, arith}
use Rattle.std.specs.List.{Contains}
use Rattle.redo_core.specs.Data.{CutData}
use Rattle.redo_core.proofs.Members.{none_in}
use Rattle.volume_theorems.specs.Nodes.{Content, Vote, VolumeNode}
use Rattle.volume_theorems.specs.Runs.{VolumeRun, Move}
use Rattle.volume_theorems.specs.Runs.Move.{Rests, ComesFresh, Learns, IsReplaced, IsCreated, IsFenced, Accepts, IsAdmitted}
use Rattle.volume_theorems.specs.Opening.{HasAsked, IsCutSent}
use Rattle.volume_theorems.specs.Proposing.{MayPropose}
use Rattle.volume_theorems.specs.Protocol.{FollowsProtocol, IsVoting, IsEntering, Moves}
use Rattle.volume_theorems.proofs.Orders.{by_time}
use Rattle.volume_theorems.proofs.Births.{goes_on}
use Rattle.volume_theorems.proofs.Guards.{asked_by_union, fenced_before}

-- ---- votes
-- an engine of the vote's generation has proposed it, before the moment
pub record WasProposed (run : VolumeRun) (t : ℕ) (vote : Vote) : Type 0 where
  pub engine : ℕ
  pub moment : ℕ
  pub before : moment < t
  pub generation : (run.engines engine).generation ≡ vote.generation
  pub cut : (run.engines engine).cuts vote.cut.epoch ≡ vote.cut
  pub proposed : MayPropose run engine vote.cut.epoch moment

abbrev pub IsFromProposal : VolumeRun → ℕ → Option Vote → Type 0
IsFromProposal run t None = Unit {0}
IsFromProposal run t (Some vote) = WasProposed run t vote

pub proposed_later : (run : VolumeRun) (s t : ℕ) (v : Option Vote) → s ≤ t → IsFromProposal run s v → IsFromProposal run t v
proposed_later run s t None upto from = tt
proposed_later run s t (Some vote) upto from = record {
  engine = from.engine;
  moment = from.moment;
  before = let earlier : from.moment < s = from.before in omega arith;
  generation = from.generation;
  cut = from.cut;
  proposed = from.proposed;
}

-- the votes of all nodes, up to the moment
abbrev pub AllProposed : VolumeRun → ℕ → Type 0
AllProposed run t = (j : ℕ) → IsFromProposal run t (run.nodes t j).accepted

vote_as : (run : VolumeRun) (t : ℕ) (old new : VolumeNode) → new.accepted ≡ old.accepted → IsFromProposal run t old.accepted
    → IsFromProposal run (suc t) new.accepted
vote_as run t old new same from =
    subst (λ (v : Option Vote). IsFromProposal run (suc t) v) (sym same) (proposed_later run t (suc t) old.accepted (omega arith) from)

voted_proposed : (run : VolumeRun) (t e k : ℕ) (old new : VolumeNode) → IsVoting run t e k old new → IsFromProposal run (suc t) new.accepted
voted_proposed run t e k old new says =
    let p : MayPropose run e k t = says.proposed in
    let vote : Vote = record { generation = (run.engines e).generation; cut = (run.engines e).cuts k } in
    let here : WasProposed run (suc t) vote = record {
      engine = e;
      moment = t;
      before = omega arith;
      generation = refl;
      cut = ap (λ (x : ℕ). (run.engines e).cuts x) p.of_epoch;
      proposed = subst (λ (x : ℕ). MayPropose run e x t) (sym p.of_epoch) p;
    } in
    let votes : new.accepted ≡ Some vote = ap (λ (n : VolumeNode). n.accepted) says.new_is in
    subst (λ (v : Option Vote). IsFromProposal run (suc t) v) (sym votes) here

entered_proposed : (run : VolumeRun) (t e i : ℕ) (old new : VolumeNode) → ((s : ℕ) → s ≤ t → AllProposed run s) → IsEntering run t e i old new
    → IsFromProposal run (suc t) new.accepted
entered_proposed run t e i old new all says =
    let asked : HasAsked run e t = asked_by_union run e t says.admits.union says.admits.unites in
    let one = says.admits.greatest.of_one in
    let f : ℕ = (run.engines e).fenced one.0 in
    let early : f < t = fenced_before run e t one.0 asked one.1 in
    let votes : new.accepted ≡ (run.nodes f one.0).accepted = ap (λ (n : VolumeNode). n.accepted) says.new_is ∙ one.2 in
    subst (λ (v : Option Vote). IsFromProposal run (suc t) v) (sym votes)
    (proposed_later run f (suc t) (run.nodes f one.0).accepted (omega arith) (all f (omega arith) one.0))

proposed_after : (run : VolumeRun) (t i : ℕ) (m : Move) (new : VolumeNode) → ((s : ℕ) → s ≤ t → AllProposed run s)
    → IsFromProposal run t (run.nodes t i).accepted → Moves run t i m (run.nodes t i) new → IsFromProposal run (suc t) new.accepted
proposed_after run t i Rests new all had says = vote_as run t (run.nodes t i) new (ap (λ (n : VolumeNode). n.accepted) says) had
proposed_after run t i ComesFresh new all had says =
    subst (λ (v : Option Vote). IsFromProposal run (suc t) v) (sym says.nothing.accepted) tt
proposed_after run t i Learns new all had says = vote_as run t (run.nodes t i) new (ap (λ (n : VolumeNode). n.accepted) says.same) had
proposed_after run t i IsReplaced new all had says = vote_as run t (run.nodes t i) new (ap (λ (n : VolumeNode). n.accepted) says.same) had
proposed_after run t i IsCreated new all had says =
    subst (λ (n : VolumeNode). IsFromProposal run (suc t) n.accepted) (sym says.new_is) tt
proposed_after run t i (IsFenced e) new all had says = vote_as run t (run.nodes t i) new (ap (λ (n : VolumeNode). n.accepted) says.new_is) had
proposed_after run t i (Accepts e k) new all had says = voted_proposed run t e k (run.nodes t i) new says
proposed_after run t i (IsAdmitted e) new all had says = entered_proposed run t e i (run.nodes t i) new all says

proposed_at : (run : VolumeRun) (t : ℕ) → FollowsProtocol run → ((s : ℕ) → s < t → AllProposed run s) → AllProposed run t
proposed_at run zero is earlier j = subst (λ (v : Option Vote). IsFromProposal run zero v) (sym (is.begins j).accepted) tt
proposed_at run (suc t) is earlier j =
    let all : (s : ℕ) → s ≤ t → AllProposed run s = λ s upto. earlier s (omega arith) in
    let had : IsFromProposal run t (run.nodes t j).accepted = all t (omega arith) j in
    ⊎_elim
    (λ (rests : run.nodes (suc t) j ≡ run.nodes t j).
    vote_as run t (run.nodes t j) (run.nodes (suc t) j) (ap (λ (n : VolumeNode). n.accepted) rests) had)
    (λ says. proposed_after run t j (run.moves t) (run.nodes (suc t) j) all had says.1)
    (goes_on run t j is)

pub votes_proposed : (run : VolumeRun) (t j : ℕ) → FollowsProtocol run → IsFromProposal run t (run.nodes t j).accepted
votes_proposed run t j is = by_time (AllProposed run) (λ x earlier. proposed_at run x is earlier) t j

-- ---- truncations
pub sent_later : (run : VolumeRun) (s t : ℕ) (c : CutData) → s ≤ t → IsCutSent run s c → IsCutSent run t c
sent_later run s t c upto sent =
    (sent.0, sent.1, (sent.2.0, sent.2.1, λ i among. let x = sent.2.2 i among in let before : x.0 < s = x.1 in (x.0, omega arith, x.2)))

abbrev pub AllSent : VolumeRun → ℕ → Type 0
AllSent run t = (j : ℕ) (c : CutData) → Contains (run.nodes t j).content.cuts c → IsCutSent run t c

content_as : (run : VolumeRun) (t : ℕ) (old new : VolumeNode) (c : CutData) → new.content ≡ old.content
    → ((x : CutData) → Contains old.content.cuts x → IsCutSent run t x) → Contains new.content.cuts c → IsCutSent run (suc t) c
content_as run t old new c same had inside =
    sent_later run t (suc t) c (omega arith) (had c (subst (λ (x : Content). Contains x.cuts c) same inside))

sent_after : (run : VolumeRun) (t i : ℕ) (m : Move) (old new : VolumeNode) (c : CutData)
    → ((x : CutData) → Contains old.content.cuts x → IsCutSent run t x) → Moves run t i m old new → Contains new.content.cuts c → IsCutSent run (suc t) c
sent_after run t i Rests old new c had says inside = content_as run t old new c (ap (λ (n : VolumeNode). n.content) says) had inside
sent_after run t i ComesFresh old new c had says inside =
    absurd (none_in c (subst (λ (cuts : List CutData). Contains cuts c) says.nothing.cuts inside))
sent_after run t i Learns old new c had says inside = ⊎_elim
    (λ (known : Contains old.content.cuts c). sent_later run t (suc t) c (omega arith) (had c known))
    (λ (sent : IsCutSent run t c). sent_later run t (suc t) c (omega arith) sent)
    (says.sent c inside)
sent_after run t i IsReplaced old new c had says inside = sent_later run t (suc t) c (omega arith) (says.sent c inside)
sent_after run t i IsCreated old new c had says inside = content_as run t old new c (ap (λ (n : VolumeNode). n.content) says.new_is) had inside
sent_after run t i (IsFenced e) old new c had says inside = content_as run t old new c (ap (λ (n : VolumeNode). n.content) says.new_is) had inside
sent_after run t i (Accepts e k) old new c had says inside = content_as run t old new c (ap (λ (n : VolumeNode). n.content) says.new_is) had inside
sent_after run t i (IsAdmitted e) old new c had says inside = content_as run t old new c (ap (λ (n : VolumeNode). n.content) says.new_is) had inside

-- each truncation that a node has was sent by an engine before
pub all_sent : (run : VolumeRun) (t : ℕ) → FollowsProtocol run → AllSent run t
all_sent run zero is j c inside = absurd (none_in c (subst (λ (cuts : List CutData). Contains cuts c) (is.begins j).cuts inside))
all_sent run (suc t) is j c inside = ⊎_elim
    (λ (rests : run.nodes (suc t) j ≡ run.nodes t j).
    content_as run t (run.nodes t j) (run.nodes (suc t) j) c (ap (λ (n : VolumeNode). n.content) rests) (all_sent run t is j) inside)
    (λ says. sent_after run t j (run.moves t) (run.nodes t j) (run.nodes (suc t) j) c (all_sent run t is j) says.1 inside)
    (goes_on run t j is)
