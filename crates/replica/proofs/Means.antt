-- What the segment means after each request.
use Rattle.std.proofs.Common.{◌≡◌, ℕ, ⊎_elim, List, [], ◌∷◌, ap, sym, subst, Option, Some, None, Result, Ok, Err, OnOk, OnErr, IfOk, rules}
use Rattle.std.specs.List.{Contains}
use Rattle.redo_core.specs.Sound.{IsSound}
use Rattle.redo_core.specs.declared.facts.Fact.{Fact}
use Rattle.redo_core.specs.declared.refusal.Refused.{Refused}
use Rattle.messages.specs.Summaries.{SummaryData}
use Rattle.messages.specs.Deltas.{DeltaData}
use Rattle.segment_theorems.specs.State.{State, empty_state}
use Rattle.segment_theorems.specs.Means.{Means}
use Rattle.segment_theorems.specs.Promises.{TakesFact, KeepsMeaning}
use Rattle.segment_theorems.proofs.Bare.{empty_means}
use Rattle.segment_core.specs.declared.answers.ReadFault.{ReadFault}
use Rattle.segment_core.specs.declared.answers.Refusal.{Refusal}
use Rattle.segment_core.specs.declared.answers.Taken.{Taken}
use Rattle.segment_core.specs.declared.answers.Taken.TheVariants as taken
use Rattle.gossip_core.specs.Absorbing.{MeansBoth}
use Rattle.gossip_core.specs.declared.absorbing.AbsorbRefusal.{AbsorbRefusal}
use Rattle.read_cache.specs.Cached.{Cached, cached}
use Rattle.snapshot.specs.Stagings.{StagingData}
use Rattle.snapshot.specs.Hydrating.{MeansFrozen}
use Rattle.snapshot.specs.declared.finishing.FinishFault.{FinishFault}
use Rattle.replica.specs.declared.requests.Request.TheVariants as request
use Rattle.replica.specs.declared.replies.Reply.{Reply}
use Rattle.replica.specs.declared.replies.Reply.TheVariants as reply
use Rattle.replica.specs.Parts.{ReplicaData}
use Rattle.replica.specs.Replying.{taken_reply, refusal_reply, absorbed_reply, unfinished_reply, united_reply}
use Rattle.replica.specs.AtSegment.{LacksMemory, Opens}
use Rattle.segment_join.specs.Joining.{MeansUnion}
use Rattle.replica.specs.Hydrating.{Finishes, StandsFor, EndsInUnion, UnitesMade}
use Rattle.replica.specs.Meaning.{facts_after, BringsDelta, BringsStaging, ReplicaMeans, StepMeans, RunsMean}

-- the facts, one sound log, and what the old segment means of it
pub record Stood (roster : ℕ) (log facts : List Fact) (old : State) : Type 0 where
  pub sound : IsSound roster log
  pub means : Means roster log facts old

-- the segment that stays as it is means what it meant
stays : (roster : ℕ) (log facts : List Fact) (old new : State) → new ≡ old → Means roster log facts old → Means roster log facts new
stays roster log facts old new same m = subst (λ s. Means roster log facts s) (sym same) m

-- ---- open
opened : (roster : ℕ) (log facts brought : List Fact) (old new : Cached) (readers : ℕ) (told : Reply) → readers ≡ roster → Opens old readers told new
    → Means roster log facts old.segment → Means roster log (facts_after facts brought (request.Open readers) told) new.segment
opened roster log facts brought old new readers told size opens m =
    let Goal : Reply → Cached → Type 0 = λ r c. Means roster log (facts_after facts brought (request.Open readers) r) c.segment in
    ⊎_elim
    (λ (none : LacksMemory old told new). subst (λ r. Goal r new) (sym none.0) (subst (λ c. Goal reply.Memory c) (sym none.1) m))
    (λ (some : (told ≡ reply.Opened) × (new ≡ cached (empty_state readers) old.pages [])).
    subst (λ r. Goal r new) (sym some.0)
    (subst (λ c. Goal reply.Opened c) (sym some.1) (subst (λ n. Means roster log [] (empty_state n)) (sym size) (empty_means roster log))))
    opens

-- ---- take
refused_take : (facts brought : List Fact) (fact : Fact) (why : Refusal) → facts_after facts brought (request.Take fact) (refusal_reply why) ≡ facts
refused_take facts brought fact why = search rules

took : (roster : ℕ) (log facts brought : List Fact) (old new : State) (fact : Fact) (answer : Result Taken (Refused Fact Refusal)) → Stood roster log facts old
    → Contains log fact → OnOk answer (TakesFact old fact new) → OnErr answer (new ≡ old)
    → Means roster log (facts_after facts brought (request.Take fact) (taken_reply answer)) new
took roster log facts brought old new fact (Ok taken.Changed) stood among takes same = takes roster log facts stood.sound among stood.means
took roster log facts brought old new fact (Ok taken.Unchanged) stood among takes same = takes roster log facts stood.sound among stood.means
took roster log facts brought old new fact (Err refused) stood among takes same =
    subst (λ l. Means roster log l new) (sym (refused_take facts brought fact refused.fault)) (stays roster log facts old new same stood.means)

-- ---- absorb
refused_absorb : (facts brought : List Fact) (summary : SummaryData) (delta : DeltaData) (why : AbsorbRefusal)
    → facts_after facts brought (request.Absorb summary delta) (absorbed_reply (Err why)) ≡ facts
refused_absorb facts brought summary delta why = search rules

absorbed : (roster : ℕ) (log facts brought : List Fact) (old new : State) (summary : SummaryData) (delta : DeltaData)
    (answer : Result (Unit {0}) AbsorbRefusal) → Stood roster log facts old → BringsDelta roster log summary delta brought
    → OnOk answer (MeansBoth old summary delta new) → OnErr answer (new ≡ old)
    → Means roster log (facts_after facts brought (request.Absorb summary delta) (absorbed_reply answer)) new
absorbed roster log facts brought old new summary delta (Ok done) stood brings means same =
    means roster log facts brought stood.means.0 brings.0
    (record { sound = stood.sound; means = stood.means.1; part = brings.1; position = brings.2; fills = brings.3 })
absorbed roster log facts brought old new summary delta (Err why) stood brings means same =
    subst (λ l. Means roster log l new) (sym (refused_absorb facts brought summary delta why)) (stays roster log facts old new same stood.means)

-- ---- tidy
tidied : (roster : ℕ) (log facts : List Fact) (old new : Cached) (answer : Result (Unit {0}) ReadFault) → Stood roster log facts old.segment
    → OnOk answer (KeepsMeaning old.segment new.segment) → OnErr answer (new ≡ old) → Means roster log facts new.segment
tidied roster log facts old new answer stood keeps same = search rules

-- ---- finish
unfinished : (facts brought : List Fact) (why : FinishFault) → facts_after facts brought request.Finish (unfinished_reply why) ≡ facts
unfinished facts brought why = search rules

finished : (roster : ℕ) (log facts brought : List Fact) (old new : Cached) (st : StagingData) (staging : Option StagingData) (told : Reply)
    (answer : Result State FinishFault) → Stood roster log facts old.segment → BringsStaging roster log (Some st) brought → IfOk answer (MeansFrozen st)
    → StandsFor old st answer told new staging → Means roster log (facts_after facts brought request.Finish told) new.segment
finished roster log facts brought old new st staging told (Ok s) stood brings means stands =
    subst (λ r. Means roster log (facts_after facts brought request.Finish r) new.segment) (sym stands.0)
    (subst (λ c. Means roster log brought c.segment) (sym stands.1) (means brings.0 brings.1 brings.2 roster log brought stood.sound brings.3))
finished roster log facts brought old new st staging told (Err why) stood brings means stands =
    subst (λ r. Means roster log (facts_after facts brought request.Finish r) new.segment) (sym stands.0)
    (subst (λ l. Means roster log l new.segment) (sym (unfinished facts brought why))
    (subst (λ c. Means roster log facts c.segment) (sym stands.1) stood.means))

finishes : (roster : ℕ) (log facts brought : List Fact) (old new : Cached) (before after : Option StagingData) (told : Reply)
    → Stood roster log facts old.segment → BringsStaging roster log before brought → Finishes old before told new after
    → Means roster log (facts_after facts brought request.Finish told) new.segment
finishes roster log facts brought old new None after told stood brings says =
    subst (λ r. Means roster log (facts_after facts brought request.Finish r) new.segment) (sym says.0)
    (subst (λ c. Means roster log facts c.segment) (sym says.1) stood.means)
finishes roster log facts brought old new (Some st) after told stood brings says =
    finished roster log facts brought old new st after told says.answer stood brings says.makes.means says.stands

-- ---- unite
refused_union : (facts brought : List Fact) (why : Refusal) → facts_after facts brought request.Unite (refusal_reply why) ≡ facts
refused_union facts brought why = search rules

not_united : (facts brought : List Fact) (why : FinishFault) → facts_after facts brought request.Unite (unfinished_reply why) ≡ facts
not_united facts brought why = search rules

united : (roster : ℕ) (log facts brought : List Fact) (old new : State) (made : State) (answer : Result (Unit {0}) Refusal) → Stood roster log facts old
    → Means roster log brought made → OnOk answer (MeansUnion old made new) → OnErr answer (new ≡ old)
    → Means roster log (facts_after facts brought request.Unite (united_reply answer)) new
united roster log facts brought old new made (Ok done) stood m union same = union roster log facts brought stood.sound stood.means m
united roster log facts brought old new made (Err why) stood m union same =
    subst (λ l. Means roster log l new) (sym (refused_union facts brought why)) (stays roster log facts old new same stood.means)

same_segment : {A : Type 0} (answer : Result (Unit {0}) Refusal) (old new : Cached) (x y : A) → OnErr answer ((new ≡ old) × (x ≡ y))
    → OnErr answer (new.segment ≡ old.segment)
same_segment (Ok done) old new x y same = tt
same_segment (Err why) old new x y same = ap (λ c. c.segment) same.0

pub united_made : (roster : ℕ) (log facts brought : List Fact) (old new : Cached) (st : StagingData) (staging : Option StagingData) (told : Reply)
    (answer : Result State FinishFault) → Stood roster log facts old.segment → BringsStaging roster log (Some st) brought → IfOk answer (MeansFrozen st)
    → UnitesMade old st answer told new staging → Means roster log (facts_after facts brought request.Unite told) new.segment
united_made roster log facts brought old new st staging told (Ok made) stood brings means says =
    subst (λ r. Means roster log (facts_after facts brought request.Unite r) new.segment) (sym says.is)
    (united roster log facts brought old.segment new.segment made says.answer stood (means brings.0 brings.1 brings.2 roster log brought stood.sound brings.3)
    says.means (same_segment says.answer old new staging (Some st) says.unchanged))
united_made roster log facts brought old new st staging told (Err why) stood brings means says =
    subst (λ r. Means roster log (facts_after facts brought request.Unite r) new.segment) (sym says.0)
    (subst (λ l. Means roster log l new.segment) (sym (not_united facts brought why))
    (subst (λ c. Means roster log facts c.segment) (sym says.1) stood.means))

unites : (roster : ℕ) (log facts brought : List Fact) (old new : Cached) (before after : Option StagingData) (told : Reply)
    → Stood roster log facts old.segment → BringsStaging roster log before brought → EndsInUnion old before told new after
    → Means roster log (facts_after facts brought request.Unite told) new.segment
unites roster log facts brought old new None after told stood brings says =
    subst (λ r. Means roster log (facts_after facts brought request.Unite r) new.segment) (sym says.0)
    (subst (λ c. Means roster log facts c.segment) (sym says.1) stood.means)
unites roster log facts brought old new (Some st) after told stood brings says =
    united_made roster log facts brought old new st after told says.answer stood brings says.makes.means says.unites

-- ---- each request
same_replica : (roster : ℕ) (log facts : List Fact) (old new : ReplicaData) → new ≡ old → ReplicaMeans roster log facts old
    → ReplicaMeans roster log facts new
same_replica roster log facts old new same m = subst (λ r. ReplicaMeans roster log facts r) (sym same) m

same_cached : (roster : ℕ) (log facts : List Fact) (old new : Cached) → new ≡ old → Means roster log facts old.segment → Means roster log facts new.segment
same_cached roster log facts old new same m = subst (λ c. Means roster log facts c.segment) (sym same) m

pub step_means : StepMeans
step_means roster log facts brought old (request.Open readers) told new sound brings says m =
    opened roster log facts brought old.cached new.cached readers told brings says.0 m
step_means roster log facts brought old (request.Take fact) told new sound brings says m =
    let t = says.0 in
    subst (λ r. Means roster log (facts_after facts brought (request.Take fact) r) new.cached.segment) (sym t.is)
    (took roster log facts brought old.cached.segment new.cached.segment fact t.answer (record { sound = sound; means = m }) brings t.takes.means t.takes.unchanged)
step_means roster log facts brought old request.Front told new sound brings says m = same_replica roster log facts old new says.1 m
step_means roster log facts brought old request.Gap told new sound brings says m = same_replica roster log facts old new says.1 m
step_means roster log facts brought old request.State told new sound brings says m = same_replica roster log facts old new says.1 m
step_means roster log facts brought old (request.Read page point) told new sound brings says m =
    stays roster log facts old.cached.segment new.cached.segment says.0.segment m
step_means roster log facts brought old request.Ask told new sound brings says m = same_replica roster log facts old new says.1 m
step_means roster log facts brought old (request.Answer summary) told new sound brings says m = same_replica roster log facts old new says.1 m
step_means roster log facts brought old (request.AnswerWithin summary most) told new sound brings says m =
    same_replica roster log facts old new says.1 m
step_means roster log facts brought old (request.Absorb summary delta) told new sound brings says m =
    let t = says.0 in
    subst (λ r. Means roster log (facts_after facts brought (request.Absorb summary delta) r) new.cached.segment) (sym t.is)
    (absorbed roster log facts brought old.cached.segment new.cached.segment summary delta t.answer (record { sound = sound; means = m }) brings
    t.absorbs.means t.absorbs.unchanged)
step_means roster log facts brought old (request.Fold page) told new sound brings says m = says.0.keeps roster log facts sound m
step_means roster log facts brought old request.Discard told new sound brings says m = says.0.keeps roster log facts sound m
step_means roster log facts brought old request.Tidy told new sound brings says m =
    let t = says.0 in tidied roster log facts old.cached new.cached t.answer (record { sound = sound; means = m }) t.keeps t.unchanged
step_means roster log facts brought old (request.Freeze name) told new sound brings says m = same_cached roster log facts old.cached new.cached says.1 m
step_means roster log facts brought old (request.Piece index) told new sound brings says m = same_replica roster log facts old new says.1 m
step_means roster log facts brought old (request.Stage name total) told new sound brings says m =
    same_cached roster log facts old.cached new.cached says.1 m
step_means roster log facts brought old (request.Add piece) told new sound brings says m = same_cached roster log facts old.cached new.cached says.1 m
step_means roster log facts brought old request.Finish told new sound brings says m =
    finishes roster log facts brought old.cached new.cached old.staging new.staging told (record { sound = sound; means = m }) brings says.0
step_means roster log facts brought old request.Unite told new sound brings says m =
    unites roster log facts brought old.cached new.cached old.staging new.staging told (record { sound = sound; means = m }) brings says.0
step_means roster log facts brought old (request.Next after) told new sound brings says m = same_replica roster log facts old new says.1 m

-- ---- any number of requests
pub runs_mean : RunsMean
runs_mean roster log facts old [] new sound runs m = same_replica roster log facts old new runs m
runs_mean roster log facts old (t ∷ ts) new sound runs m =
    let later = step_means roster log facts t.brought old t.asked t.told runs.0 sound runs.1 runs.2 m in
    runs_mean roster log (facts_after facts t.brought t.asked t.told) runs.0 ts new sound runs.3 later
