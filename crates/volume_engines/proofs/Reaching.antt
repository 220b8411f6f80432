-- The fronts that an open volume counts.
use Rattle.std.proofs.Common.{◌≡◌, ℕ, zero, suc, ◌+◌, ◌<◌, ◌≤◌, ◌⊎◌, ⊎_elim, List, [], ◌∷◌, length, Bool, true, false, map, max, refl, sym, ◌∙◌, subst, ap, arith, cond, IsTrue}
use Rattle.std.specs.Prelude.{slice_index, nat_le}
use Rattle.std.proofs.lemmas.List.Sums.{sum_by-cons}
use Rattle.std.proofs.lemmas.Bool.Decides.{nat_tests}
use Rattle.redo_core.specs.Sound.{IsSound}
use Rattle.messages.specs.Summaries.{SummaryData}
use Rattle.segment_core.specs.declared.answers.Front.{Front}
use Rattle.replica.specs.declared.replies.Reply.TheVariants as told
use Rattle.replica.specs.Parts.{ReplicaData}
use Rattle.volume.specs.Sets.{is_marked, count_marked, count_at_least}
use Rattle.volume.specs.Writing.{with_reached}
use Rattle.volume_theorems.specs.Nodes.{Content, VolumeNode, IsOfGeneration}
use Rattle.volume_theorems.specs.Runs.{VolumeRun, Many}
use Rattle.volume_theorems.specs.Opening.{AnswersUnder}
use Rattle.volume_theorems.specs.Contents.{IsContentOf}
use Rattle.volume_theorems.proofs.Guards.{asked_later}
use Rattle.volume_guards.specs.Guards.{as_node}
use Rattle.volume_logs.specs.Histories.{History, log_at}
use Rattle.volume_logs.specs.Joining.{IsFrontAbove}
use Rattle.volume_logs.proofs.Sound.{log_is_sound}
use Rattle.volume_engines.specs.Lives.{Life, Guards}
use Rattle.volume_engines.specs.World.{HoldsPart}
use Rattle.volume_engines.specs.Proposals.{IsLifeIn}
use Rattle.volume_engines.proofs.Tables.{at_or_not, put_there, put_elsewhere}
use Rattle.volume_engines.proofs.Shown.{front_says}
use Rattle.volume_engines.proofs.Admissions.{same_front}
use Rattle.volume_engines.proofs.Heard.{IsHeard}
use Rattle.volume_engines.proofs.Proposing.{many_marked}

-- ---- one front
-- the node has answered the engine, before the moment t, with a front of the epoch at or above the point
abbrev pub HasReported : VolumeRun → History → ℕ → ℕ → ℕ → ℕ → ℕ → Type 0
HasReported run h e t epoch point i = (s : ℕ) × (s < t) × AnswersUnder run e s i × IsFrontAbove run h s i epoch point

module _ (run : VolumeRun) (h : History) (stop : ℕ) (content : ReplicaData → Content) (guards : Guards) (e : ℕ) (life : Life) (count : ℕ)
    (is : IsLifeIn run h stop content guards e life count) (n : ℕ) (step : n < count) (Q : SummaryData → Type 0) (node generation birth : ℕ) (front : Front)
    (same : generation ≡ life.generation) (x : IsHeard run guards e life n Q node generation birth (told.Front front)) where
  early : life.given n ≤ stop
  early = let one : life.given n < life.moments n = x.before in let two : life.moments n ≤ stop = is.upto n step in omega arith

  node_is : run.nodes (life.given n) node ≡ as_node content (guards (life.given n) node)
  node_is = is.guarded.nodes (life.given n) node early

  under : IsOfGeneration (run.nodes (life.given n) node) (run.engines e).generation
  under = (
    subst (λ (y : VolumeNode). IsTrue y.is_member) (sym node_is) x.under.0,
    ap (λ (y : VolumeNode). y.generation) node_is ∙ (sym x.under.1 ∙ (same ∙ sym is.names.generation)),
  )

  hold : HoldsPart h (life.given n) content (guards (life.given n) node)
  hold = is.guarded.holds (life.given n) node early

  held : IsContentOf hold.part (run.nodes (life.given n) node).content
  held = subst (λ (y : VolumeNode). IsContentOf hold.part y.content) (sym node_is) hold.has

  pub own_front : HasReported run h e (life.moments n) front.epoch front.complete node
  own_front =
      let says = front_says run e x.moment Q (guards (life.given n) node).replica (guards (suc (life.given n)) node).replica x.inner front x.right x.replies in
      let sound : IsSound h.readers (log_at h (life.given n)) = log_is_sound run h stop (life.given n) is.follows is.emitted early in
      let shows = says.1.facts h.readers (log_at h (life.given n)) hold.part hold.means.0 sound hold.means.1 in
      let shown : front ≡ says.1.front = same_front front says.1.front says.1.is in
      let epoch : front.epoch ≡ hold.means.0.epoch = ap (λ (f : Front). f.epoch) shown ∙ shows.epoch in
      let complete : front.complete ≡ hold.means.0.complete = ap (λ (f : Front). f.complete) shown ∙ shows.complete in (
        life.given n,
        x.before,
        record { asked = asked_later run e x.moment (life.given n) x.sent says.0; under = under },
        record {
          part = hold.part;
          inner = hold.means.1.part;
          content = held;
          front = hold.means.0;
          position = hold.means.1.position;
          epoch_is = sym epoch;
          reached = omega arith;
        },
      )

-- ---- the table
-- each node with a point has reported it
abbrev pub HaveReported : VolumeRun → History → ℕ → ℕ → ℕ → List ℕ → Type 0
HaveReported run h e t epoch reached =
    (i : ℕ) → 0 < slice_index reached i → (i < run.roster) × HasReported run h e t epoch (slice_index reached i) i

reported_more : (run : VolumeRun) (h : History) (e s t epoch point i : ℕ) → s ≤ t → HasReported run h e s epoch point i → HasReported run h e t epoch point i
reported_more run h e s t epoch point i order x = let before : x.0 < s = x.1 in (x.0, omega arith, x.2, x.3)

pub have_later : (run : VolumeRun) (h : History) (e s t epoch : ℕ) (reached : List ℕ) → s ≤ t → HaveReported run h e s epoch reached → HaveReported run h e t epoch reached
have_later run h e s t epoch reached order have i some =
    let x = have i some in (x.0, reported_more run h e s t epoch (slice_index reached i) i order x.1)

pub have_more : (run : VolumeRun) (h : History) (e t epoch node point : ℕ) (reached : List ℕ) → node < length reached → node < run.roster
    → HasReported run h e t epoch point node → HaveReported run h e t epoch reached → HaveReported run h e t epoch (with_reached reached node point)
have_more run h e t epoch node point reached long within one have i some = ⊎_elim
    (λ (here : i ≡ node).
    let top : ℕ = max (slice_index reached node) point in
    let at : slice_index (with_reached reached node point) i ≡ top = put_there reached node i top 0 long here in
    let mine : (node < run.roster) × HasReported run h e t epoch top node = ⊎_elim
    (λ (low : slice_index reached node ≤ point).
    let same : point ≡ top = grind (arith, nat_tests) in
    (within, subst (λ (m : ℕ). HasReported run h e t epoch m node) same one))
    (λ (high : point < slice_index reached node).
    let same : slice_index reached node ≡ top = grind (arith, nat_tests) in
    let had = have node (omega arith) in
    (within, subst (λ (m : ℕ). HasReported run h e t epoch m node) same had.1))
    (let way : (slice_index reached node ≤ point) ⊎ (point < slice_index reached node) = grind arith in way) in
    subst (λ (j : ℕ). (j < run.roster) × HasReported run h e t epoch (slice_index (with_reached reached node point) i) j) (sym here)
    (mine.0, subst (λ (m : ℕ). HasReported run h e t epoch m node) (sym at) mine.1))
    (λ apart.
    let at : slice_index (with_reached reached node point) i ≡ slice_index reached i = put_elsewhere reached node i (max (slice_index reached node) point) 0 apart in
    let before : 0 < slice_index reached i = subst (λ (m : ℕ). 0 < m) at some in
    subst (λ (m : ℕ). (i < run.roster) × HasReported run h e t epoch m i) (sym at) (have i before))
    (at_or_not i node)

-- ---- a quorum
abbrev marks_from : ℕ → List ℕ → List Bool
marks_from point reached = map (λ n. nat_le point n) reached

marked_reached : (point : ℕ) (reached : List ℕ) (i : ℕ) → is_marked (marks_from point reached) i ≡ true → point ≤ slice_index reached i
marked_reached point [] i marked = absurd (let no : false ≡ true = marked in cc)
marked_reached point (n ∷ reached) zero marked = let is : nat_le point n ≡ true = marked in grind (arith, nat_tests)
marked_reached point (n ∷ reached) (suc i) marked = marked_reached point reached i marked

counted_marks : (point : ℕ) (reached : List ℕ) → count_marked (marks_from point reached) ≡ count_at_least point reached
counted_marks point [] = refl
counted_marks point (n ∷ reached) =
    sum_by-cons (λ (b : Bool). cond b 1 0) (nat_le point n) (marks_from point reached)
    ∙ ap (λ (m : ℕ). cond (nat_le point n) 1 0 + m) (counted_marks point reached)
    ∙ sym (sum_by-cons (λ (m : ℕ). cond (nat_le point m) 1 0) n reached)

front_lower : (run : VolumeRun) (h : History) (s i epoch low high : ℕ) → low ≤ high → IsFrontAbove run h s i epoch high → IsFrontAbove run h s i epoch low
front_lower run h s i epoch low high order f = record {
  part = f.part;
  inner = f.inner;
  content = f.content;
  front = f.front;
  position = f.position;
  epoch_is = f.epoch_is;
  reached = let above : high ≤ f.front.complete = f.reached in omega arith;
}

-- as many nodes as a quorum takes have reported the point
pub many_reported : (run : VolumeRun) (h : History) (e t epoch point quorum : ℕ) (reached : List ℕ) → 0 < point → quorum ≡ run.quorum
    → HaveReported run h e t epoch reached → quorum ≤ count_at_least point reached → Many run (HasReported run h e t epoch point)
many_reported run h e t epoch point quorum reached some same have enough =
    let all : count_marked (marks_from point reached) ≡ count_at_least point reached = counted_marks point reached in
    many_marked run (marks_from point reached) (HasReported run h e t epoch point) (omega arith) (λ i marked.
    let above : point ≤ slice_index reached i = marked_reached point reached i marked in
    let x = have i (omega arith) in
    (x.0, (x.1.0, x.1.1, x.1.2, front_lower run h x.1.0 i epoch point (slice_index reached i) above x.1.3)))
