-- Each reply is that of the facts that the replica means.
use Rattle.std.proofs.Common.{◌≡◌, ℕ, ◌⊎◌, inl, inr, ⊎_elim, List, [], refl, sym, ap, ◌∙◌, subst, arith, Option, Some, None, Result, Ok, Err, IfOk, IfErr, OnOk, rules}
use Rattle.std.specs.List.{Contains}
use Rattle.redo_core.specs.Position.{Position}
use Rattle.redo_core.specs.Sets.{SameSet}
use Rattle.redo_core.specs.Sound.{IsSound}
use Rattle.redo_core.specs.declared.facts.Fact.{Fact}
use Rattle.redo_core.specs.declared.refusal.Refused.{Refused}
use Rattle.log_theorems.proofs.Fronts.{front_unique, page_unique}
use Rattle.log_theorems.proofs.Log.{log_of_sound}
use Rattle.messages.specs.Deltas.{DeltaData}
use Rattle.messages.specs.Summaries.{SummaryData}
use Rattle.segment_theorems.specs.State.{State}
use Rattle.segment_theorems.specs.Means.{Means}
use Rattle.segment_theorems.proofs.Same.{meaning_law}
use Rattle.segment_core.specs.Forgetting.{IsSoundState}
use Rattle.segment_core.specs.Reading.{IsFrontAt, IsReadResult}
use Rattle.segment_core.specs.Refusing.{FitsSoundLog}
use Rattle.segment_core.specs.Taking.{ReportsChange}
use Rattle.segment_core.specs.declared.answers.Front.{Front}
use Rattle.segment_core.specs.declared.answers.ReadFault.{ReadFault}
use Rattle.segment_core.specs.declared.answers.ReadFault.TheVariants as fault
use Rattle.segment_core.specs.declared.answers.Refusal.{Refusal}
use Rattle.segment_core.specs.declared.answers.Refusal.TheVariants as refusal
use Rattle.segment_core.specs.declared.answers.Taken.{Taken}
use Rattle.segment_core.specs.declared.answers.Taken.TheVariants as taken
use Rattle.segment_core.specs.declared.fold_plan.Folded.{Folded}
use Rattle.gossip_core.specs.Absorbing.{Answers, RefusesAbsorb, IsOfOneLog}
use Rattle.gossip_core.specs.Replying.{FillsSummary}
use Rattle.gossip_core.specs.declared.absorbing.AbsorbRefusal.{AbsorbRefusal}
use Rattle.gossip_core.specs.declared.absorbing.AbsorbRefusal.TheVariants as absorb
use Rattle.gossip_core.specs.declared.answering.Shown.{Shown}
use Rattle.gossip_core.proofs.AnsweringFacts.{answers_for, tells_answer}
use Rattle.segment_join.specs.Joining.{AreOfOneLog}
use Rattle.read_cache.specs.Cached.{Cached}
use Rattle.hot_log.specs.Found.{IsLeast}
use Rattle.snapshot.specs.Stagings.{StagingData, IsStaging, IsMissingPiece}
use Rattle.snapshot.specs.Placing.{IsComplete}
use Rattle.snapshot.specs.Hydrating.{IsOfSoundState}
use Rattle.snapshot.specs.declared.finishing.FinishFault.{FinishFault}
use Rattle.snapshot.specs.declared.finishing.FinishFault.TheVariants as finish
use Rattle.replica.specs.declared.requests.Request.{Request}
use Rattle.replica.specs.declared.requests.Request.TheVariants as request
use Rattle.replica.specs.declared.replies.Reply.{Reply}
use Rattle.replica.specs.declared.replies.Reply.TheVariants as reply
use Rattle.replica.specs.Parts.{ReplicaData}
use Rattle.replica.specs.Replying.{taken_reply, refusal_reply, fault_reply, read_reply, tidied_reply, delta_reply, absorbed_reply, unfinished_reply, united_reply}
use Rattle.replica.specs.AtSegment.{CommitsPlan}
use Rattle.gossip_core.specs.Calls.{SumsUp}
use Rattle.replica.specs.Gossiping.{limited_reply}
use Rattle.replica.specs.Hydrating.{MakesSegment, Finishes, StandsFor, EndsInUnion, UnitesMade}
use Rattle.replica.specs.Machine.{IsReply}
use Rattle.replica.specs.Meaning.{BringsDelta, ReplicaMeans}
use Rattle.cluster_theorems.specs.Following.{IsRead}
use Rattle.cluster_theorems.specs.Replying.{ReportsTake, ReportsSummary, ReportsDelta, ReportsAbsorb, Lacks, EndsStaging, RepliesAs}
use Rattle.cluster_theorems.specs.Turns.{Begun}
use Rattle.cluster_theorems.proofs.Made.{IsOfFacts}
use Rattle.cluster_theorems.proofs.Staged.{FillsAs, same_lack, complete}

module _ (roster : ℕ) (log facts : List Fact) (s : State) (sound : IsSound roster log) (means : Means roster log facts s) where
  -- ---- take
  changed : (taken.Changed ≡ taken.Unchanged) → reply.Changed ≡ reply.Unchanged
  changed e = cc

  changed_back : (reply.Changed ≡ reply.Unchanged) → taken.Changed ≡ taken.Unchanged
  changed_back e = cc

  took : (fact : Fact) (told : Reply) (answer : Result Taken (Refused Fact Refusal)) → Contains log fact → IfOk answer (ReportsChange s fact)
      → IfErr answer (λ e. FitsSoundLog s fact → e.fault ≡ refusal.Memory) → told ≡ taken_reply answer
      → (told ≡ reply.Memory) ⊎ ReportsTake roster facts fact told
  took fact told (Ok taken.Changed) among tells fits is =
      let tell : ReportsTake roster facts fact reply.Changed = (
        inl refl,
        λ m of. let same = tells roster log facts m sound among means of in (λ e. same.0 (changed_back e), λ h. changed (same.1 h)),
      ) in
      subst (λ r. (r ≡ reply.Memory) ⊎ ReportsTake roster facts fact r) (sym is) (inr tell)
  took fact told (Ok taken.Unchanged) among tells fits is =
      let tell : ReportsTake roster facts fact reply.Unchanged = (
        inr refl,
        λ m of. let same = tells roster log facts m sound among means of in (λ e. same.0 refl, λ h. refl),
      ) in
      subst (λ r. (r ≡ reply.Memory) ⊎ ReportsTake roster facts fact r) (sym is) (inr tell)
  took fact told (Err refused) among tells fits is =
      let e : refused.fault ≡ refusal.Memory = fits (roster, log, facts, sound, among, means) in
      inl (is ∙ ap refusal_reply e)

  -- ---- gossip
  sound_state : IsSoundState s
  sound_state = (roster, log, facts, sound, means)

  summed : (summary : SummaryData) (told : Reply) → SumsUp s summary → told ≡ reply.Summary summary → ReportsSummary roster facts told
  summed summary told sums is =
      (summary, λ m h. sums.meaning m ((meaning_law log facts s m (log_of_sound roster log sound) means).1 h), is)

  delta_told : (summary : SummaryData) (told : Reply) (answer : Result DeltaData ReadFault) → IfOk answer (FillsSummary s summary)
      → IfErr answer (λ e. IsSoundState s → e ≡ fault.Memory) → told ≡ delta_reply answer → (told ≡ reply.Memory) ⊎ ReportsDelta roster facts summary told
  delta_told summary told (Ok d) fills whole is =
      inr (means.0, means.1.position, (d, fills roster log facts means.0 sound means.1, is))
  delta_told summary told (Err why) fills whole is = inl (is ∙ ap fault_reply (whole sound_state))

  only_memory : (why : Refusal) → absorb.Refused why ≡ absorb.Refused refusal.Memory → why ≡ refusal.Memory
  only_memory why e = cc

  absorbed : (summary : SummaryData) (delta : DeltaData) (told : Reply) (answer : Result (Unit {0}) AbsorbRefusal) (brought : List Fact)
      → BringsDelta roster log summary delta brought
      → OnOk answer (Answers s summary) → IfErr answer (RefusesAbsorb s summary delta)
      → IfErr answer (λ e. IsOfOneLog s summary delta → (e ≡ absorb.Refused refusal.Memory) ⊎ ((shown : Shown) × (e ≡ absorb.Uncovered shown)))
      → told ≡ absorbed_reply answer → (told ≡ reply.Memory) ⊎ ReportsAbsorb roster facts summary told
  absorbed summary delta told (Ok done) brought brings answers refused fits is =
      inr (means.0, means.1.position, inl (is, answers_for roster log facts means.0 s sound means.1 summary answers.0 answers.1 answers.2))
  absorbed summary delta told (Err (absorb.Uncovered shown)) brought brings answers refused fits is =
      let un = refused.1 in
      let tells = tells_answer roster log facts means.0 s sound means.1 summary un.0 un.1 (Some shown) un.2 in
      inr (means.0, means.1.position, inr (shown, is, λ all. absurd (let e : Some shown ≡ None = tells.1 all in cc)))
  absorbed summary delta told (Err (absorb.Refused why)) brought brings answers refused fits is = ⊎_elim
      (λ (e : absorb.Refused why ≡ absorb.Refused refusal.Memory). inl (is ∙ ap refusal_reply (only_memory why e)))
      (λ (e : (shown : Shown) × (absorb.Refused why ≡ absorb.Uncovered shown)). absurd (let no = e.1 in cc))
      (fits (
        roster,
        log,
        facts,
        brought,
        means.0,
        brings.0,
        record {
          sound = sound;
          means = means.1;
          part = brings.1;
          position = brings.2;
          fills = brings.3;
        },
      ))

  -- ---- folds
  folded : (old new : Cached) (told : Reply) (plan : Result Folded ReadFault) → old.segment ≡ s → IfErr plan (λ f. IsSoundState old.segment → f ≡ fault.Memory)
      → CommitsPlan old plan told new → (told ≡ reply.Memory) ⊎ (told ≡ reply.Folded)
  folded old new told plan same whole commits = search rules

  tidied : (told : Reply) (answer : Result (Unit {0}) ReadFault) → IfErr answer (λ f. IsSoundState s → f ≡ fault.Memory) → told ≡ tidied_reply answer
      → (told ≡ reply.Memory) ⊎ (told ≡ reply.Tidied)
  tidied told answer whole is = search rules

-- ---- the end of a staging
made_reply : Reply → Result State FinishFault → Reply
made_reply done (Ok made) = done
made_reply done (Err why) = unfinished_reply why

-- where nothing is missing the staging lacks nothing, and the least piece that it lacks is the least that is missing
lacks_none : (begun : Begun) (st : StagingData) → FillsAs (Some begun) (Some st) → IsComplete st → IsLeast (Lacks begun) None
lacks_none begun st fills whole = λ index lacks. whole index ((same_lack begun st fills index).0 lacks)

lacks_least : (begun : Begun) (st : StagingData) (index : ℕ) → FillsAs (Some begun) (Some st) → IsLeast (IsMissingPiece st) (Some index)
    → IsLeast (Lacks begun) (Some index)
lacks_least begun st index fills least =
    ((same_lack begun st fills index).1 least.0, λ m lacks. least.1 m ((same_lack begun st fills m).0 lacks))

-- where a segment was made nothing is missing
made_whole : (st : StagingData) (made : State) → MakesSegment st (Ok made) → IsComplete st
made_whole st made makes = complete st (λ i least. absurd (let e : Ok made ≡ Err (finish.Missing i) = (makes.missing i).1 least in cc))

ended : (begun : Begun) (done : Reply) (st : StagingData) (answer : Result State FinishFault) (told : Reply) → FillsAs (Some begun) (Some st)
    → (IsComplete st → IsOfSoundState st) → MakesSegment st answer → told ≡ made_reply done answer → EndsStaging (Some begun) done told
unfolding made_reply
ended begun done st (Ok made) told fills whole makes is = inr (lacks_none begun st fills (made_whole st made makes), inl is)
ended begun done st (Err (finish.Missing index)) told fills whole makes is = inl (index, lacks_least begun st index fills ((makes.missing index).0 refl), is)
ended begun done st (Err (finish.Malformed index)) told fills whole makes is =
    absurd (makes.sound (whole ((makes.malformed index).0 refl).0) index refl)
ended begun done st (Err finish.Memory) told fills whole makes is = inr (lacks_none begun st fills (makes.memory refl).0, inr is)

-- what is known of a staging, if there is one
abbrev pub StagingIsOf : ℕ → List Fact → List Fact → Option StagingData → Type 0
StagingIsOf roster log brought before = (st : StagingData) → before ≡ Some st → IsStaging st → IsOfFacts roster log brought st

finish_is : (old : Cached) (st : StagingData) (answer : Result State FinishFault) (told : Reply) (new : Cached) (after : Option StagingData)
    → StandsFor old st answer told new after → told ≡ made_reply reply.Restored answer
unfolding made_reply
finish_is old st (Ok made) told new after stands = stands.0
finish_is old st (Err why) told new after stands = stands.0

not_made : (done : Reply) (why : FinishFault) (told : Reply) → told ≡ unfinished_reply why → told ≡ made_reply done (Err why)
unfolding made_reply
not_made done why told is = is

finished_told : (roster : ℕ) (log brought : List Fact) (begun : Option Begun) (before after : Option StagingData) (old new : Cached) (told : Reply)
    → FillsAs begun before → StagingIsOf roster log brought before → Finishes old before told new after → EndsStaging begun reply.Restored told
finished_told roster log brought None None after old new told fills of says = says.0
finished_told roster log brought None (Some st) after old new told fills of says = absurd fills
finished_told roster log brought (Some begun) None after old new told fills of says = absurd fills
finished_told roster log brought (Some begun) (Some st) after old new told fills of says =
    ended begun reply.Restored st says.answer told fills (of st refl says.makes.form).whole says.makes
    (finish_is old st says.answer told new after says.stands)

module _ (roster : ℕ) (log facts brought : List Fact) (sound : IsSound roster log) where
  joined_told : (begun : Begun) (old made : State) (told : Reply) (joined : Result (Unit {0}) Refusal) → Means roster log facts old
      → Means roster log brought made → IsLeast (Lacks begun) None → IfErr joined (λ e. AreOfOneLog old made → e ≡ refusal.Memory)
      → told ≡ united_reply joined → EndsStaging (Some begun) reply.United told
  joined_told begun old made told (Ok done) own its none fits is = inr (none, inl is)
  joined_told begun old made told (Err why) own its none fits is =
      inr (none, inr (is ∙ ap refusal_reply (fits (roster, log, facts, brought, sound, own, its))))

  united_by : (begun : Begun) (old new : Cached) (st : StagingData) (after : Option StagingData) (told : Reply) (answer : Result State FinishFault)
      → FillsAs (Some begun) (Some st) → Means roster log facts old.segment → IsOfFacts roster log brought st → MakesSegment st answer
      → UnitesMade old st answer told new after → EndsStaging (Some begun) reply.United told
  united_by begun old new st after told (Ok made) fills own of makes says =
      let b = of.brings made makes.hydrates in
      joined_told begun old.segment made told says.answer own (makes.means b.0 b.1 b.2 roster log brought sound b.3)
      (lacks_none begun st fills (made_whole st made makes)) says.sound says.is
  united_by begun old new st after told (Err why) fills own of makes says =
      ended begun reply.United st (Err why) told fills of.whole makes (not_made reply.United why told says.0)

  united_told : (begun : Option Begun) (before after : Option StagingData) (old new : Cached) (told : Reply) → FillsAs begun before
      → Means roster log facts old.segment → StagingIsOf roster log brought before → EndsInUnion old before told new after
      → EndsStaging begun reply.United told
  united_told None None after old new told fills own of says = says.0
  united_told None (Some st) after old new told fills own of says = absurd fills
  united_told (Some begun) None after old new told fills own of says = absurd fills
  united_told (Some begun) (Some st) after old new told fills own of says =
      united_by begun old new st after told says.answer fills own (of st refl says.makes.form) says.makes says.unites

-- what is absorbed has what some facts of the log have beyond the summary, what is taken is of the log, and the pieces of a staging are of
-- some facts
abbrev pub BringsSome : ℕ → List Fact → Option StagingData → Request → List Fact → Type 0
BringsSome roster log before (request.Take fact) brought = Contains log fact
BringsSome roster log before (request.Absorb summary delta) brought = BringsDelta roster log summary delta brought
BringsSome roster log before request.Finish brought = StagingIsOf roster log brought before
BringsSome roster log before request.Unite brought = StagingIsOf roster log brought before
BringsSome roster log before asked brought = Unit {0}

within_memory : (most : ℕ) (whole told : Reply) → whole ≡ reply.Memory → told ≡ limited_reply most whole → told ≡ reply.Memory
within_memory most whole told none is = is ∙ ap (limited_reply most) none

pub replies_as : (roster : ℕ) (log facts brought : List Fact) (begun : Option Begun) (old new : ReplicaData) (asked : Request) (told : Reply)
    → IsSound roster log → ReplicaMeans roster log facts old → FillsAs begun old.staging → BringsSome roster log old.staging asked brought → IsReply old asked told new
    → RepliesAs roster log facts begun asked told
replies_as roster log facts brought begun old new (request.Open readers) told sound means fills brings says = tt
replies_as roster log facts brought begun old new (request.Take fact) told sound means fills brings says =
    let t = says.0 in took roster log facts old.cached.segment sound means fact told t.answer brings t.tells t.sound t.is
replies_as roster log facts brought begun old new request.Front told sound means fills brings says =
    let t = says.0 in
    record { p = means.0; position = means.1.position; front = t.front; tells = t.facts roster log facts means.0 sound means.1; is = t.is }
replies_as roster log facts brought begun old new request.Gap told sound means fills brings says =
    let t = says.0 in
    record { p = means.0; position = means.1.position; gap = t.gap; tells = t.facts roster log facts means.0 sound means.1; is = t.is }
replies_as roster log facts brought begun old new request.State told sound means fills brings says = tt
replies_as roster log facts brought begun old new (request.Read page point) told sound means fills brings says =
    let t = says.0 in
    record { p = means.0; position = means.1.position; answer = t.answer; tells = t.facts roster log facts means.0 sound means.1; is = t.is }
replies_as roster log facts brought begun old new request.Ask told sound means fills brings says = ⊎_elim
    (λ (lacks : told ≡ reply.Memory). inl lacks)
    (λ (sums : (summary : SummaryData) × SumsUp old.cached.segment summary × (told ≡ reply.Summary summary)).
    inr (summed roster log facts old.cached.segment sound means sums.0 told sums.1 sums.2))
    says.0
replies_as roster log facts brought begun old new (request.Answer summary) told sound means fills brings says =
    let t = says.0 in delta_told roster log facts old.cached.segment sound means summary told t.answer t.replies.fills t.replies.sound t.is
replies_as roster log facts brought begun old new (request.AnswerWithin summary most) told sound means fills brings says =
    let t = says.0 in
    let r = t.replies in ⊎_elim
    (λ (lacks : t.whole ≡ reply.Memory). inl (within_memory most t.whole told lacks t.is))
    (λ (tells : ReportsDelta roster facts summary t.whole). inr (t.whole, tells, t.is))
    (delta_told roster log facts old.cached.segment sound means summary t.whole r.answer r.replies.fills r.replies.sound r.is)
replies_as roster log facts brought begun old new (request.Absorb summary delta) told sound means fills brings says =
    let t = says.0 in
    absorbed roster log facts old.cached.segment sound means summary delta told t.answer brought brings t.absorbs.answers t.absorbs.refused t.absorbs.sound t.is
replies_as roster log facts brought begun old new (request.Fold page) told sound means fills brings says =
    let t = says.0 in folded roster log facts old.cached.segment sound means old.cached new.cached told t.plan refl t.sound t.commits
replies_as roster log facts brought begun old new request.Discard told sound means fills brings says = says.0.is
replies_as roster log facts brought begun old new request.Tidy told sound means fills brings says =
    let t = says.0 in tidied roster log facts old.cached.segment sound means told t.answer t.sound t.is
replies_as roster log facts brought begun old new request.Finish told sound means fills brings says =
    finished_told roster log brought begun old.staging new.staging old.cached new.cached told fills brings says.0
replies_as roster log facts brought begun old new request.Unite told sound means fills brings says =
    united_told roster log facts brought sound begun old.staging new.staging old.cached new.cached told fills means brings says.0
replies_as roster log facts brought begun old new asked told sound means fills brings says = tt

-- ---- one reply
fronts_alike : (p q : Position) (f g : Front) → p ≡ q → IsFrontAt p f → IsFrontAt q g → f ≡ g
fronts_alike p q f g same h k = search rules

one_read : (facts others : List Fact) → SameSet facts others → (p : Position) (page q : ℕ) (a b : Result (List ℕ) ReadFault)
    → IsReadResult facts p page q a → IsReadResult others p page q b → (read_reply a ≡ reply.Memory → ⊥) → (read_reply b ≡ reply.Memory → ⊥) → read_reply a ≡ read_reply b
one_read facts others same p page q (Ok i) (Ok j) h k x y =
    ap (λ image. reply.Page image) (page_unique facts others same p.epoch page q i j h.1 k.1)
one_read facts others same p page q (Ok i) (Err (fault.Below n)) h k x y = absurd (omega (arith, k.1, h.0.0))
one_read facts others same p page q (Ok i) (Err (fault.Above n)) h k x y = absurd (omega (arith, k.2, h.0.1))
one_read facts others same p page q (Ok i) (Err (fault.BrokenBlockChain g n)) h k x y = absurd k
one_read facts others same p page q (Ok i) (Err fault.Memory) h k x y = absurd (y refl)
one_read facts others same p page q (Err (fault.Below m)) (Ok j) h k x y = absurd (omega (arith, h.1, k.0.0))
one_read facts others same p page q (Err (fault.Below m)) (Err (fault.Below n)) h k x y = ap (λ (i : ℕ). reply.Below i) (h.0 ∙ sym k.0)
one_read facts others same p page q (Err (fault.Below m)) (Err (fault.Above n)) h k x y = absurd (omega (arith, h.1, k.1))
one_read facts others same p page q (Err (fault.Below m)) (Err (fault.BrokenBlockChain g n)) h k x y = absurd k
one_read facts others same p page q (Err (fault.Below m)) (Err fault.Memory) h k x y = absurd (y refl)
one_read facts others same p page q (Err (fault.Above m)) (Ok j) h k x y = absurd (omega (arith, h.2, k.0.1))
one_read facts others same p page q (Err (fault.Above m)) (Err (fault.Below n)) h k x y = absurd (omega (arith, h.1, k.1))
one_read facts others same p page q (Err (fault.Above m)) (Err (fault.Above n)) h k x y = ap (λ (i : ℕ). reply.Above i) (h.0 ∙ sym k.0)
one_read facts others same p page q (Err (fault.Above m)) (Err (fault.BrokenBlockChain g n)) h k x y = absurd k
one_read facts others same p page q (Err (fault.Above m)) (Err fault.Memory) h k x y = absurd (y refl)
one_read facts others same p page q (Err (fault.BrokenBlockChain g n)) b h k x y = absurd h
one_read facts others same p page q (Err fault.Memory) b h k x y = absurd (x refl)

pub one_reply : (roster : ℕ) (log facts others : List Fact) (begun filled : Option Begun) (asked : Request) (told other : Reply) → SameSet facts others → IsRead asked
    → RepliesAs roster log facts begun asked told → RepliesAs roster log others filled asked other → (told ≡ reply.Memory → ⊥) → (other ≡ reply.Memory → ⊥) → told ≡ other
one_reply roster log facts others begun filled request.Front told other same reads h k x y =
    let one : h.p ≡ k.p = front_unique facts others same h.p k.p h.position k.position in
    h.is ∙ ap (λ f. reply.Front f) (fronts_alike h.p k.p h.front k.front one h.tells k.tells) ∙ sym k.is
one_reply roster log facts others begun filled (request.Read page point) told other same reads h k x y =
    let one : h.p ≡ k.p = front_unique facts others same h.p k.p h.position k.position in
    h.is ∙ one_read facts others same k.p page point h.answer k.answer (subst (λ p. IsReadResult facts p page point h.answer) one h.tells) k.tells
    (λ e. x (h.is ∙ e)) (λ e. y (k.is ∙ e)) ∙ sym k.is
one_reply roster log facts others begun filled asked told other same reads h k x y = absurd reads
