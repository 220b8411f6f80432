-- A run that stops follows the rules that it followed before.
use Rattle.std.proofs.Common.{◌≡◌, ◌≢◌, ℕ, suc, ◌<◌, ◌≤◌, ◌⊎◌, ⊎_elim, inl, inr, true, false, sym, ◌∙◌, subst, ap, arith, IsTrue}
use Rattle.std.specs.Prelude.{min, nat_lt, if◌then◌else◌}
use Rattle.std.specs.List.{Contains}
use Rattle.std.specs.Prelude.{Option}
use Rattle.redo_core.specs.Data.{CutData}
use Rattle.volume_theorems.specs.Nodes.{Content, Vote, VolumeNode, HasNothing, IsOfGeneration, GrowsTo, VoteUpTo}
use Rattle.volume_theorems.specs.Runs.{VolumeRun, Move, MakesMove, IsOneBirth}
use Rattle.volume_theorems.specs.Runs.Move.{Rests, ComesFresh, Learns, IsReplaced, IsCreated, IsFenced, Accepts, IsAdmitted}
use Rattle.volume_theorems.specs.Opening.{HasGathered, HasShown, HasAsked, AnswersUnder, CountsUnder, IsCutSent, IsUnion, IsKnownToMany, IsBest}
use Rattle.volume_theorems.specs.Proposing.{AdoptsPending, MakesOwn, MayPropose, MayAdmit}
use Rattle.volume_theorems.specs.Protocol.{Moves}
use Rattle.volume_theorems.specs.Stopping.{FollowsUntil, stopped, StoppedFollows, FollowsEach, FollowsOn, FollowsAll}
use Rattle.volume_theorems.proofs.Guards.{asked_by_union, gathered_before, fenced_before}

min_is : (t stop : ℕ) → t ≤ stop → min t stop ≡ t
min_is t stop upto = grind arith

min_stop : (t stop : ℕ) → stop ≤ t → min t stop ≡ stop
min_stop t stop upto = grind arith

pub lt_true : (t stop : ℕ) → t < stop → nat_lt t stop ≡ true
lt_true t stop before = grind arith

pub lt_false : (t stop : ℕ) → stop ≤ t → nat_lt t stop ≡ false
lt_false t stop after = grind arith

module _ (run : VolumeRun) (stop : ℕ) where
  abbrev Late : VolumeRun
  Late = stopped run stop

  -- ---- what was done before the stop
  node_is : (t i : ℕ) → t ≤ stop → Late.nodes t i ≡ run.nodes t i
  node_is t i upto = ap (λ (x : ℕ). run.nodes x i) (min_is t stop upto)

  move_is : (t : ℕ) → t < stop → Late.moves t ≡ run.moves t
  move_is t before = ap (λ b. if b then run.moves t else Rests) (lt_true t stop before)

  pub makes_is : (t i : ℕ) (m : Move) → t < stop → MakesMove run t i m → MakesMove Late t i m
  makes_is t i m before makes = (makes.0, move_is t before ∙ makes.1)

  pub of_node : (P : VolumeNode → Type 0) (t i : ℕ) → t ≤ stop → P (run.nodes t i) → P (Late.nodes t i)
  of_node P t i upto had = subst P (sym (node_is t i upto)) had

  pub makes_back : (t i : ℕ) (m : Move) → t < stop → MakesMove Late t i m → MakesMove run t i m
  makes_back t i m before makes = (makes.0, sym (move_is t before) ∙ makes.1)

  one_birth_is : (i s t : ℕ) → s ≤ stop → t ≤ stop → IsOneBirth run i s t → IsOneBirth Late i s t
  one_birth_is i s t first second same =
      ap (λ (n : VolumeNode). n.birth) (node_is s i first) ∙ same ∙ ap (λ (n : VolumeNode). n.birth) (sym (node_is t i second))

  -- ---- what an engine has heard before the moment
  gathered_is : (e t : ℕ) → t ≤ stop → HasAsked run e t → HasGathered Late e
  gathered_is e t upto asked = record {
    many = asked.gathered.many;
    before = asked.gathered.before;
    fenced = λ i among.
        let early : (run.engines e).fenced i < t = fenced_before run e t i asked among in
        makes_is ((run.engines e).fenced i) i (IsFenced e) (omega arith) (asked.gathered.fenced i among);
  }

  shown_is : (e i p t : ℕ) → p < t → t ≤ stop → (run.engines e).fenced i < t → HasShown run e i p → HasShown Late e i p
  shown_is e i p t before upto fenced shown = record {
    after = shown.after;
    under = of_node (λ (n : VolumeNode). IsOfGeneration n (run.engines e).generation) p i (omega arith) shown.under;
    birth = one_birth_is i ((run.engines e).fenced i) p (omega arith) (omega arith) shown.birth;
  }

  asked_is : (e t : ℕ) → t ≤ stop → HasAsked run e t → HasAsked Late e t
  asked_is e t upto asked = record {
    gathered = gathered_is e t upto asked;
    shown = λ i among.
        let of = asked.shown i among in
        (of.0, of.1, shown_is e i of.0 t of.1 upto (fenced_before run e t i asked among) of.2);
  }

  answers_is : (e s i : ℕ) → s ≤ stop → AnswersUnder run e s i → AnswersUnder Late e s i
  answers_is e s i upto answers = record {
    asked = asked_is e s upto answers.asked;
    under = of_node (λ (n : VolumeNode). IsOfGeneration n (run.engines e).generation) s i upto answers.under;
  }

  pub counts_is : (e s i : ℕ) → s ≤ stop → CountsUnder run e s i → CountsUnder Late e s i
  counts_is e s i upto counts = record {
    asked = asked_is e s upto counts.asked;
    member = of_node (λ n. IsTrue n.is_member) s i upto counts.member;
    upto = of_node (λ n. n.generation ≤ (run.engines e).generation) s i upto counts.upto;
  }

  pub sent_is : (t : ℕ) (c : CutData) → t ≤ stop → IsCutSent run t c → IsCutSent Late t c
  sent_is t c upto sent = (
    sent.0,
    sent.1,
    (
      sent.2.0,
      sent.2.1,
      λ i among.
          let x = sent.2.2 i among in
          let before : x.0 < t = x.1 in
          (x.0, before, makes_is x.0 i (Accepts sent.0 c.epoch) (omega arith) x.2),
    ),
  )

  union_is : (e t : ℕ) (u : Content) → t ≤ stop → IsUnion run e t u → IsUnion Late e t u
  union_is e t u upto union =
      let asked : HasAsked run e t = asked_by_union run e t u union in
      record {
        gathered = gathered_is e t upto asked;
        of_all = λ i among.
            let of = union.of_all i among in
            let before : of.0 < t = of.1 in (
              of.0,
              before,
              shown_is e i of.0 t before upto (fenced_before run e t i asked among) of.2,
              of_node (λ (n : VolumeNode). GrowsTo n.content u) of.0 i (omega arith) of.3,
            );
        sent = λ c inside. sent_is t c upto (union.sent c inside);
      }

  known_is : (e t : ℕ) (u : Content) (lo : ℕ) → t ≤ stop → IsKnownToMany run e t u lo → IsKnownToMany Late e t u lo
  known_is e t u lo upto known = (
    known.0,
    known.1,
    λ i among.
        let x = known.2 i among in
        let before : x.0 < t = x.1 in (
          x.0,
          before,
          answers_is e x.0 i (omega arith) x.2,
          of_node (λ (n : VolumeNode). n.content.epoch ≡ u.epoch) x.0 i (omega arith) x.3,
          of_node (λ (n : VolumeNode). Contains n.content.points lo) x.0 i (omega arith) x.4,
        ),
  )

  best_is : (e t : ℕ) (best : Option Vote) → t ≤ stop → HasAsked run e t → IsBest run e best → IsBest Late e best
  best_is e t best upto asked greatest =
      let one = greatest.of_one in
      let early : (run.engines e).fenced one.0 < t = fenced_before run e t one.0 asked one.1 in
      record {
        of_one = (
          one.0,
          one.1,
          of_node (λ (n : VolumeNode). best ≡ n.accepted) ((run.engines e).fenced one.0) one.0 (omega arith) one.2,
        );
        above = λ i among.
            let before : (run.engines e).fenced i < t = fenced_before run e t i asked among in
            of_node (λ (n : VolumeNode). VoteUpTo n.accepted best) ((run.engines e).fenced i) i (omega arith) (greatest.above i among);
      }

  -- ---- rules
  proposes_is : (e k t : ℕ) → t ≤ stop → MayPropose run e k t → MayPropose Late e k t
  proposes_is e k t upto p = record {
    union = p.union;
    unites = union_is e t p.union upto p.unites;
    next = p.next;
    of_epoch = p.of_epoch;
    known = known_is e t p.union ((run.engines e).cuts k).lo upto p.known;
    best = p.best;
    greatest = best_is e t p.best upto (asked_by_union run e t p.union p.unites) p.greatest;
    choice = ⊎_elim
        (λ (adopts : AdoptsPending run e k p.best). inl (record { below = adopts.below; pending = adopts.pending }))
        (λ (makes : MakesOwn run e k p.union p.best).
        inr (record { opens = makes.opens; free = makes.free; lo = makes.lo; last = makes.last; hi = makes.hi }))
        p.choice;
  }

  admits_is : (e i t : ℕ) (vote : Option Vote) → t ≤ stop → MayAdmit run e i t vote → MayAdmit Late e i t vote
  admits_is e i t vote upto a =
      let asked : HasAsked run e t = asked_by_union run e t a.union a.unites in
      let one = a.greatest.of_one in
      let gathered : (run.engines e).gathered < t = gathered_before run e t one.0 asked one.1 in
      let early : a.heard.0 < (run.engines e).gathered = a.heard.1 in
      record {
        union = a.union;
        unites = union_is e t a.union upto a.unites;
        heard = (
          a.heard.0,
          early,
          of_node (λ (n : VolumeNode). ¬ (IsTrue n.is_member)) a.heard.0 i (omega arith) a.heard.2,
          one_birth_is i a.heard.0 t (omega arith) upto a.heard.3,
        );
        epoch = of_node (λ (n : VolumeNode). n.content.epoch ≡ a.union.epoch) t i upto a.epoch;
        points = of_node (λ (n : VolumeNode). (p : ℕ) → Contains a.union.points p → Contains n.content.points p) t i upto a.points;
        greatest = best_is e t vote upto asked a.greatest;
      }

  -- each move before the stop is one of the stopped run
  move_kept : (t i : ℕ) (m : Move) (old new : VolumeNode) → t < stop → Moves run t i m old new → Moves Late t i m old new
  move_kept t i Rests old new before says = says
  move_kept t i ComesFresh old new before says = record {
    nothing = says.nothing;
    birth = λ s upto. of_node (λ (n : VolumeNode). n.birth ≢ new.birth) s i (omega arith) (says.birth s upto);
  }
  move_kept t i Learns old new before says = record {
    same = says.same;
    grows = says.grows;
    sent = λ c inside. ⊎_elim
        (λ (had : Contains old.content.cuts c). inl had)
        (λ (sent : IsCutSent run t c). inr (sent_is t c (omega arith) sent))
        (says.sent c inside);
  }
  move_kept t i IsReplaced old new before says = record {
    out = says.out;
    same = says.same;
    sent = λ c inside. sent_is t c (omega arith) (says.sent c inside);
  }
  move_kept t i IsCreated old new before says = record {
    out = says.out;
    birth = says.birth ∙ ap (λ (n : VolumeNode). n.birth) (sym (node_is 0 i (omega arith)));
    new_is = says.new_is;
  }
  move_kept t i (IsFenced e) old new before says = record { member = says.member; above = says.above; new_is = says.new_is }
  move_kept t i (Accepts e k) old new before says = record {
    under = says.under;
    proposed = proposes_is e k t (omega arith) says.proposed;
    latest = says.latest;
    new_is = says.new_is;
  }
  move_kept t i (IsAdmitted e) old new before says = record {
    out = says.out;
    vote = says.vote;
    admits = admits_is e i t says.vote (omega arith) says.admits;
    new_is = says.new_is;
  }

  moves_before : (t : ℕ) → FollowsUntil run stop → t < stop
      → Moves Late t (run.actor t) (Late.moves t) (Late.nodes t (run.actor t)) (Late.nodes (suc t) (run.actor t))
  moves_before t is before =
      let i : ℕ = run.actor t in
      let kept : Moves Late t i (run.moves t) (run.nodes t i) (run.nodes (suc t) i) =
      move_kept t i (run.moves t) (run.nodes t i) (run.nodes (suc t) i) before (is.moves t before) in
      let first : Moves Late t i (Late.moves t) (run.nodes t i) (run.nodes (suc t) i) =
      subst (λ (m : Move). Moves Late t i m (run.nodes t i) (run.nodes (suc t) i)) (sym (move_is t before)) kept in
      let second : Moves Late t i (Late.moves t) (Late.nodes t i) (run.nodes (suc t) i) =
      subst (λ (n : VolumeNode). Moves Late t i (Late.moves t) n (run.nodes (suc t) i)) (sym (node_is t i (omega arith))) first in
      subst (λ (n : VolumeNode). Moves Late t i (Late.moves t) (Late.nodes t i) n) (sym (node_is (suc t) i (omega arith))) second

  rests_at : (t i : ℕ) → stop ≤ t → Late.nodes (suc t) i ≡ Late.nodes t i
  rests_at t i after = ap (λ (x : ℕ). run.nodes x i) (min_stop (suc t) stop (omega arith) ∙ sym (min_stop t stop after))

  moves_after : (t : ℕ) → stop ≤ t → Moves Late t (run.actor t) (Late.moves t) (Late.nodes t (run.actor t)) (Late.nodes (suc t) (run.actor t))
  moves_after t after =
      let rests : Rests ≡ Late.moves t = sym (ap (λ b. if b then run.moves t else Rests) (lt_false t stop after)) in
      subst (λ (m : Move). Moves Late t (run.actor t) m (Late.nodes t (run.actor t)) (Late.nodes (suc t) (run.actor t))) rests
      (rests_at t (run.actor t) after)

  before_or_after : (t : ℕ) → (t < stop) ⊎ (stop ≤ t)
  before_or_after t = grind arith

pub stopped_follows : StoppedFollows
stopped_follows run stop is = record {
  overlap = is.overlap;
  begins = λ i. of_node run stop HasNothing 0 i (omega arith) (is.begins i);
  moves = λ t. ⊎_elim
      (λ (before : t < stop). moves_before run stop t is before)
      (λ (after : stop ≤ t). moves_after run stop t after)
      (before_or_after run stop t);
  others = λ t i apart. ⊎_elim
      (λ (before : t < stop). node_is run stop (suc t) i (omega arith) ∙ is.others t i before apart ∙ sym (node_is run stop t i (omega arith)))
      (λ (after : stop ≤ t). rests_at run stop t i after)
      (before_or_after run stop t);
}

-- a move before the stop keeps the rules
pub made_until : (run : VolumeRun) (stop t i : ℕ) (m : Move) → FollowsUntil run stop → t < stop → MakesMove run t i m
    → Moves run t i m (run.nodes t i) (run.nodes (suc t) i)
made_until run stop t i m is before makes =
    subst (λ (x : Move). Moves run t i x (run.nodes t i) (run.nodes (suc t) i)) makes.1
    (subst (λ (j : ℕ). Moves run t j (run.moves t) (run.nodes t j) (run.nodes (suc t) j)) makes.0 (is.moves t before))

pub follows_each : FollowsEach
follows_each run stop is =
    record { overlap = is.overlap; begins = is.begins; moves = λ t before. is.moves t; others = λ t i before apart. is.others t i apart }

pub follows_on : FollowsOn
follows_on run t is moved rest = record {
  overlap = is.overlap;
  begins = is.begins;
  moves = λ x before. ⊎_elim
      (λ (early : x < t). is.moves x early)
      (λ (now : t ≡ x).
      subst (λ (y : ℕ). Moves run y (run.actor y) (run.moves y) (run.nodes y (run.actor y)) (run.nodes (suc y) (run.actor y))) now moved)
      (let way : (x < t) ⊎ (t ≡ x) = grind arith in way);
  others = λ x i before apart. ⊎_elim
      (λ (early : x < t). is.others x i early apart)
      (λ (now : t ≡ x). subst (λ (y : ℕ). i ≢ run.actor y → run.nodes (suc y) i ≡ run.nodes y i) now (rest i) apart)
      (let way : (x < t) ⊎ (t ≡ x) = grind arith in way);
}

pub follows_all : FollowsAll
follows_all run all = record {
  overlap = (all 0).overlap;
  begins = (all 0).begins;
  moves = λ t. (all (suc t)).moves t (omega arith);
  others = λ t i apart. (all (suc t)).others t i (omega arith) apart;
}
