-- The quorum that an opening begins with.
use Rattle.std.proofs.Common.{◌≡◌, ℕ, zero, suc, ◌+◌, ◌<◌, ◌≤◌, ◌⊎◌, ⊎_elim, inl, inr, List, [], ◌∷◌, length, Bool, Option, Some, None, refl, sym, ◌∙◌, subst, ap, arith}
use Rattle.std.specs.Prelude.{slice_index_or}
use Rattle.std.specs.List.{Contains}
use Rattle.segment_theorems.specs.State.{State, empty_state}
use Rattle.segment_theorems.specs.Means.{Means}
use Rattle.segment_theorems.proofs.Bare.{empty_means}
use Rattle.guard.specs.declared.requests.AcceptedCut.{AcceptedCut}
use Rattle.replica.specs.Parts.{ReplicaData}
use Rattle.volume.specs.declared.fencing.Fencing.{Fencing}
use Rattle.volume.specs.declared.phases.Opening.{Opening}
use Rattle.volume.specs.declared.phases.Stage.{Stage}
use Rattle.volume.specs.Fencing.{IsGreatestPair, BeginsOpening, IsFencedQuorum}
use Rattle.volume.specs.Settings.{SettingsData}
use Rattle.volume.specs.Sets.{birth_at, is_marked, marks_of, count_marked}
use Rattle.volume_theorems.specs.Nodes.{Content, Vote, VolumeNode, VoteUpTo}
use Rattle.volume_theorems.specs.Quorums.{one_if, size_below}
use Rattle.volume_theorems.specs.Runs.{VolumeRun}
use Rattle.volume_theorems.specs.Opening.{IsInQuorum, HasGathered, IsBest}
use Rattle.volume_theorems.proofs.Quorums.{meet_within}
use Rattle.volume_theorems.proofs.Seeing.{own_quorum}
use Rattle.volume_guards.specs.Guards.{vote_of, as_node}
use Rattle.volume_logs.specs.Histories.{History, log_at}
use Rattle.volume_engines.specs.Lives.{Life, Guards}
use Rattle.volume_engines.specs.World.{HasGuards}
use Rattle.volume_engines.specs.Engines.{Gathers}
use Rattle.volume_engines.proofs.Tables.{marked_has, has_marked, marked_below}
use Rattle.volume_engines.proofs.Admissions.{KnowsFresh}
use Rattle.volume_engines.proofs.Bare.{bare_of}
use Rattle.volume_engines.proofs.Knowing.{pair_at, IsFencedAs, KnowsTable, KnowsSession, KnowsUnion, KnowsStage, KnowsOpening}

size_same : (n : ℕ) (f g : ℕ → Bool) → ((i : ℕ) → f i ≡ g i) → size_below n f ≡ size_below n g
size_same zero f g same = refl
size_same (suc n) f g same =
    let first : one_if (f n) ≡ one_if (g n) = ap one_if (same n) in
    let rest : size_below n f ≡ size_below n g = size_same n f g same in
    ap (λ (m : ℕ). m + size_below n f) first ∙ ap (λ (m : ℕ). one_if (g n) + m) rest

any_default : {X : Type 0} (xs : List X) (k : ℕ) (d e : X) → k < length xs → slice_index_or xs k d ≡ slice_index_or xs k e
any_default [] k d e within = absurd (let no : k < 0 = within in omega arith)
any_default (x ∷ xs) zero d e within = refl
any_default (x ∷ xs) (suc k) d e within = any_default xs k d e (let more : suc k < suc (length xs) = within in omega arith)

pair_in : (pairs : List (Option AcceptedCut)) (i : ℕ) (p : AcceptedCut) → pair_at pairs i ≡ Some p → Contains pairs (Some p)
pair_in [] i p has = let no : None ≡ Some p = has in absurd (cc)
pair_in (x ∷ pairs) zero p has = (0, omega arith, has)
pair_in (x ∷ pairs) (suc i) p has = let rest = pair_in pairs i p has in let lt : rest.0 < length pairs = rest.1 in (suc rest.0, omega arith, rest.2)

option_cases : {X : Type 0} (o : Option X) → (o ≡ None) ⊎ ((x : X) × (o ≡ Some x))
option_cases None = inl refl
option_cases (Some x) = inr (x, refl)

upto_greatest : (pairs : List (Option AcceptedCut)) (i : ℕ) (o best : Option AcceptedCut) → pair_at pairs i ≡ o → IsGreatestPair pairs best → VoteUpTo (vote_of o) (vote_of best)
upto_greatest pairs i None best at greatest = tt
upto_greatest pairs i (Some p) None at greatest = absurd (greatest p (pair_in pairs i p at))
upto_greatest pairs i (Some p) (Some q) at greatest = greatest.1 p (pair_in pairs i p at)

module _ (run : VolumeRun) (h : History) (stop : ℕ) (content : ReplicaData → Content) (guards : Guards) (e : ℕ) (life : Life) (n : ℕ) (s : SettingsData)
    (f : Fencing) (o : Opening) (overlap : run.roster < run.quorum + run.quorum) (guarded : HasGuards run h stop content guards) (upto : life.moments n ≤ stop)
    (quorum : s.quorum ≡ run.quorum) (readers : s.roster ≡ h.readers) (generation : f.generation ≡ life.generation)
    (table : KnowsTable run guards e life n f.births f.pairs) (fresh : KnowsFresh run (life.moments n) f.fresh) (enough : IsFencedQuorum s f.births) (begins : BeginsOpening s f o)
    (names : Gathers life n o (run.engines e)) where
  in_quorum : (i : ℕ) → (run.engines e).quorum i ≡ is_marked (marks_of f.births) i
  in_quorum i = names.quorum i ∙ ap (λ (m : List Bool). is_marked m i) begins.quorum

  birth_of : (i : ℕ) → IsInQuorum run e i → (b : ℕ) × (birth_at f.births i ≡ Some b)
  birth_of i among = marked_has f.births i (sym (in_quorum i) ∙ among)

  fenced_of : (i : ℕ) (among : IsInQuorum run e i) → IsFencedAs run guards e (life.moments n) ((run.engines e).fenced i) i (birth_of i among).0 (pair_at f.pairs i)
  fenced_of i among =
      let b = birth_of i among in
      subst (λ (p : ℕ). IsFencedAs run guards e (life.moments n) p i b.0 (pair_at f.pairs i)) (sym (names.fenced i)) (table.fenced i b.0 b.1)

  gathered : HasGathered run e
  gathered = record {
    many =
        let low : count_marked (marks_of f.births) ≤ size_below run.roster (λ i. is_marked (marks_of f.births) i) =
        marked_below (marks_of f.births) run.roster (λ i marked. let b = marked_has f.births i marked in table.within i b.0 b.1) in
        let same : size_below run.roster (run.engines e).quorum ≡ size_below run.roster (λ i. is_marked (marks_of f.births) i) =
        size_same run.roster (run.engines e).quorum (λ i. is_marked (marks_of f.births) i) in_quorum in
        let some : s.quorum ≤ count_marked (marks_of f.births) = enough in
        omega (arith, quorum);
    before = λ i among.
        let early : (run.engines e).fenced i < life.moments n = (fenced_of i among).before in
        let at : (run.engines e).gathered ≡ life.moments n = names.gathered in
        omega arith;
    fenced = λ i among. (fenced_of i among).moved;
  }

  -- the vote of a node of the quorum, when it was fenced
  vote_at : (i : ℕ) → IsInQuorum run e i → (run.nodes ((run.engines e).fenced i) i).accepted ≡ vote_of (pair_at f.pairs i)
  vote_at i among =
      let p : ℕ = (run.engines e).fenced i in
      let early : p < life.moments n = (fenced_of i among).before in
      let late : life.moments n ≤ stop = upto in
      let node : run.nodes p i ≡ as_node content (guards p i) = guarded.nodes p i (omega arith) in
      ap (λ (x : VolumeNode). x.accepted) node ∙ ap vote_of (sym (fenced_of i among).accepted)

  some_of : (i : ℕ) × IsInQuorum run e i
  some_of =
      let met = meet_within run (IsInQuorum run e) (IsInQuorum run e) overlap (own_quorum run e gathered) (own_quorum run e gathered) in
      (met.0, met.1)

  -- a node of the quorum has the greatest pair
  has_best : (best : Option AcceptedCut) → IsGreatestPair f.pairs best → (i : ℕ) × IsInQuorum run e i × (pair_at f.pairs i ≡ best)
  has_best None greatest =
      let one = some_of in
      let none : pair_at f.pairs one.0 ≡ None = ⊎_elim
      (λ (no : pair_at f.pairs one.0 ≡ None). no)
      (λ yes. absurd (greatest yes.0 (pair_in f.pairs one.0 yes.0 yes.1)))
      (option_cases (pair_at f.pairs one.0)) in
      (one.0, one.1, none)
  has_best (Some p) greatest =
      let k : ℕ = greatest.0.0 in
      let within : k < length f.pairs = greatest.0.1 in
      let here : pair_at f.pairs k ≡ Some p = any_default f.pairs k None (Some p) within ∙ greatest.0.2 in
      ⊎_elim
      (λ (none : birth_at f.births k ≡ None). let no : None ≡ Some p = sym (table.lone k none) ∙ here in absurd (cc))
      (λ (b : (x : ℕ) × (birth_at f.births k ≡ Some x)). (k, in_quorum k ∙ has_marked f.births k b.0 b.1, here))
      (option_cases (birth_at f.births k))

  best : IsBest run e (vote_of o.pair)
  best = record {
    of_one =
        let one = has_best o.pair begins.pair in
        (one.0, one.1, ap vote_of (sym one.2) ∙ sym (vote_at one.0 one.1));
    above = λ i among.
        subst (λ (v : Option Vote). VoteUpTo v (vote_of o.pair)) (sym (vote_at i among))
        (upto_greatest f.pairs i (pair_at f.pairs i) o.pair refl begins.pair);
  }

  session : KnowsSession run guards e life (life.moments n) o.session
  session = record {
    generation = begins.generation ∙ generation;
    gathered = gathered;
    upto = let at : (run.engines e).gathered ≡ life.moments n = names.gathered in omega arith;
    quorum = names.quorum;
    long = ap (λ (births : List (Option ℕ)). length births) begins.births ∙ table.births_long;
    own = λ i among.
        let b = birth_of i among in
        ap (λ (births : List (Option ℕ)). birth_at births i) begins.births ∙ b.1 ∙ ap (λ (x : ℕ). Some x) (sym (fenced_of i among).birth);
  }

  union : KnowsUnion run h e (life.moments n) o.union (marks_of f.births)
  union = record {
    facts = [];
    means = subst (λ (u : State). Means h.readers (log_at h (life.moments n)) [] u) (sym begins.union)
        (subst (λ (r : ℕ). Means h.readers (log_at h (life.moments n)) [] (empty_state r)) (sym readers)
        (empty_means h.readers (log_at h (life.moments n))));
    given = λ i among unmarked. absurd (unmarked (sym (in_quorum i) ∙ among));
  }

  pub begins_knowing : KnowsOpening run h guards e life (life.moments n) o
  begins_knowing = record {
    session = session;
    best = best;
    fresh = subst (λ (xs : List (Option ℕ)). KnowsFresh run (run.engines e).gathered xs) (sym begins.fresh)
        (subst (λ (t : ℕ). KnowsFresh run t f.fresh) (sym names.gathered) fresh);
    bare = bare_of s.roster o.union o.summary begins.union begins.summary;
    at = subst (λ (st : Stage). KnowsStage run h e (life.moments n) o.union o.pair st) (sym begins.stage) union;
  }
