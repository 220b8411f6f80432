-- A stream makes turns of the guard, and those of the replica inside.
use Rattle.std.proofs.Common.{◌≡◌, ℕ, ◌+◌, ◌⊎◌, List, [], ◌∷◌, ◌++◌, length, Option, Some, None, Result, Ok, Err, inl, inr, ⊎_elim, refl, sym, ap, ◌∙◌, subst, add-zero}
use Rattle.std.specs.Prelude.{IsTrue}
use Rattle.redo_core.specs.declared.facts.Fact.{Fact}
use Rattle.framing.specs.Inside.{Exceeds}
use Rattle.framing.specs.Lines as lines
use Rattle.framing.specs.Lines.{AnswersEach}
use Rattle.replica.specs.Machine.{IsReply}
use Rattle.replica.specs.Meaning.{Turn, Runs}
use Rattle.replica.specs.Parts.{ReplicaData}
use Rattle.replica.specs.declared.requests.Request.{Request}
use Rattle.replica.specs.declared.replies.Reply.{Reply as ReplicaReply}
use Rattle.guard.specs.Data.{GuardData}
use Rattle.guard.specs.Guarding.{IsGuardReply, Declines}
use Rattle.guard.specs.Keeping.{GuardTurn, GuardRuns}
use Rattle.guard.specs.declared.requests.Request.{Request as GuardRequest}
use Rattle.guard.specs.declared.requests.Request.TheVariants as request
use Rattle.guard.specs.declared.replies.Reply.{Reply}
use Rattle.guard.specs.declared.replies.Reply.TheVariants as reply
use Rattle.guard.proofs.Plainly.{plain_runs}
use Rattle.node_stream.specs.Answering.{Spoken, by_lines, by_frames, TellsFault, AnswersAsked, AnswersRequest, ReadsAsked, AnswersOneOf, AnswersInTurn, AnswersThese, IsAnswerBy}
use Rattle.node_stream.specs.Carried.{carried_before, carried_out}
use Rattle.node_stream.specs.Running.{IsTurn, MakesRequest, IsTurnOver, MakesOneOf, MakeInTurn, MakeEach, MakesThese, MakesBelow, MakeTurns, RunsBringing, RunsInside, Run, AnswersRun, FramesRun, PlainStream, PlainlyRun}
use Rattle.node_stream.specs.declared.asked.GuardAsked.{GuardAsked}
use Rattle.node_stream.specs.declared.faults.LineFault.{LineFault}

module _ (form : Spoken) where
  -- from a first state to another one by turns of which this holds
  abbrev Made : GuardData → GuardData → (List GuardTurn → Type 0) → Type 0
  Made old new holds = (turns : List GuardTurn) × GuardRuns old turns new × holds turns

  same : (old new : GuardData) (holds : List GuardTurn → Type 0) → new ≡ old → holds [] → Made old new holds
  same old new holds e h = ([], e, h)

  -- ---- turns after turns
  runs_both : (old : GuardData) (turns : List GuardTurn) (mid : GuardData) (more : List GuardTurn) (new : GuardData) → GuardRuns old turns mid
      → GuardRuns mid more new → GuardRuns old (turns ++ more) new
  runs_both old [] mid more new h k = subst (λ (r : GuardData). GuardRuns r more new) h k
  runs_both old (t ∷ ts) mid more new h k = (h.0, h.1, runs_both h.0 ts mid more new h.2 k)

  each_made : (answers : GuardData → List ℕ → List ℕ → GuardData → Type 0) (one : List ℕ → List ℕ → List GuardTurn → Type 0)
      → ((old : GuardData) (bytes text : List ℕ) (new : GuardData) → answers old bytes text new → Made old new (one bytes text))
      → (old : GuardData) (requests texts : List (List ℕ)) (new : GuardData) → AnswersEach answers old requests texts new
      → Made old new (MakeEach one requests texts)
  each_made answers one made old [] [] new h = same old new (MakeEach one [] []) h refl
  each_made answers one made old (bytes ∷ others) (text ∷ texts) new h =
      let here = made old bytes text h.0 h.1 in
      let rest = each_made answers one made h.0 others texts new h.2 in (
        here.0 ++ rest.0,
        runs_both old here.0 h.0 rest.0 new here.1 rest.1,
        (here.0, rest.0, refl, here.2, rest.2),
      )
  each_made answers one made old [] (text ∷ texts) new h = absurd h
  each_made answers one made old (bytes ∷ others) [] new h = absurd h

  -- ---- one request
  turned : (old : GuardData) (bytes text : List ℕ) (new : GuardData) (asked : GuardAsked) (told : Reply) → form.asks bytes ≡ Ok asked
      → IsGuardReply old asked.request told new → (text ≡ form.reply asked.window told) ⊎ (text ≡ form.memory) → Made old new (MakesRequest form bytes text)
  turned old bytes text new asked told asks replies tells =
      let t : GuardTurn = record { asked = asked.request; told = told } in
      let is : IsTurn form bytes text t = record { asked = asked; asks = asks; is = refl; tells = tells } in
      (t ∷ [], (new, replies, refl), inr (t, refl, is))

  idle : (old : GuardData) (bytes text : List ℕ) (new : GuardData) → TellsFault form bytes text → new ≡ old → Made old new (MakesRequest form bytes text)
  idle old bytes text new h e = same old new (MakesRequest form bytes text) e (inl (refl, h))

  one_asked : (old : GuardData) (bytes text : List ℕ) (new : GuardData) (asked : Result GuardAsked LineFault) → form.asks bytes ≡ asked
      → AnswersAsked form asked old text new → Made old new (MakesRequest form bytes text)
  one_asked old bytes text new (Ok asked) e (inl h) = elim h.did [
    | inl none ↦ idle old bytes text new (inl h.is) none
    | inr did ↦ turned old bytes text new asked did.0 e did.1 (inr h.is)
  ]
  one_asked old bytes text new (Ok asked) e (inr h) = turned old bytes text new asked h.told e h.replies (inl h.is)
  one_asked old bytes text new (Err fault) e (inl h) = elim h.did [
    | inl none ↦ idle old bytes text new (inl h.is) none
    | inr did ↦ absurd did
  ]
  one_asked old bytes text new (Err fault) e (inr h) = idle old bytes text new (inr (fault, e, h.0)) h.1

  one_made : (old : GuardData) (bytes text : List ℕ) (new : GuardData) → AnswersRequest form old bytes text new
      → Made old new (MakesRequest form bytes text)
  one_made old bytes text new h = one_asked old bytes text new (form.asks bytes) refl h

  -- ---- one of many requests
  read_over : (put others : ℕ) (old : GuardData) (bytes text answer : List ℕ) (new : GuardData) (asked : Result GuardAsked LineFault)
      → form.asks bytes ≡ asked → ReadsAsked form asked old answer new → Exceeds put (length answer) others → text ≡ form.over
      → Made old new (MakesOneOf form put others bytes text)
  read_over put others old bytes text answer new (Ok asked) e h exceeds over =
      let t : GuardTurn = record { asked = asked.request; told = h.told } in
      let is : IsTurnOver form put others bytes text t = record {
        asked = asked;
        asks = e;
        is = refl;
        exceeds = subst (λ (l : List ℕ). Exceeds put (length l) others) h.is exceeds;
        over = over;
      } in
      (t ∷ [], (new, h.replies, refl), inr (inl (t, refl, is)))
  read_over put others old bytes text answer new (Err fault) e h exceeds over = absurd h

  one_of_made : (put others : ℕ) (old : GuardData) (bytes text : List ℕ) (new : GuardData) → AnswersOneOf form put others old bytes text new
      → Made old new (MakesOneOf form put others bytes text)
  one_of_made put others old bytes text new (inl h) = let one = one_made old bytes text new h.1 in (one.0, one.1, inl (h.0, one.2))
  one_of_made put others old bytes text new (inr (inl h)) = read_over put others old bytes text h.answer new (form.asks bytes) refl h.reads h.exceeds h.is
  one_of_made put others old bytes text new (inr (inr h)) = same old new (MakesOneOf form put others bytes text) h.1 (inr (inr (refl, h.0)))

  in_turn_made : (put : ℕ) (old : GuardData) (requests texts : List (List ℕ)) (new : GuardData)
      → AnswersInTurn form put 0 old requests texts new → Made old new (MakeInTurn form put requests texts)
  in_turn_made put old [] [] new h = same old new (MakeInTurn form put [] []) h refl
  in_turn_made put old (bytes ∷ others) (text ∷ texts) new h =
      let here = one_of_made put (length others) old bytes text h.0
      (subst (λ (n : ℕ). AnswersOneOf form put n old bytes text h.0) (add-zero (length others)) h.1) in
      let rest = in_turn_made (put + (4 + length text)) h.0 others texts new h.2 in (
        here.0 ++ rest.0,
        runs_both old here.0 h.0 rest.0 new here.1 rest.1,
        (here.0, rest.0, refl, here.2, rest.2),
      )
  in_turn_made put old [] (text ∷ texts) new h = absurd h
  in_turn_made put old (bytes ∷ others) [] new h = absurd h

  -- ---- one request, or many
  abbrev These : Option (List ℕ) → List ℕ → List ℕ → List GuardTurn → Type 0
  These inside bytes text turns = ((turns ≡ []) × (text ≡ form.memory)) ⊎ MakesThese form inside bytes text turns

  these_made : (old : GuardData) (inside : Option (List ℕ)) (bytes text : List ℕ) (new : GuardData) → AnswersThese form inside old bytes text new
      → Made old new (These inside bytes text)
  these_made old None bytes text new h = let one = one_made old bytes text new h in (one.0, one.1, inr one.2)
  these_made old (Some inside) bytes text new (inl h) = same old new (These (Some inside) bytes text) h.1 (inl (refl, h.0))
  these_made old (Some inside) bytes text new (inr (inl h)) = same old new (These (Some inside) bytes text) h.2 (inr (inl (refl, inl (h.0, h.1))))
  these_made old (Some inside) bytes text new (inr (inr (inl h))) =
      same old new (These (Some inside) bytes text) h.same (inr (inl (refl, inr (h.frames, h.asked, h.exceed, h.is))))
  these_made old (Some inside) bytes text new (inr (inr (inr h))) =
      let all = in_turn_made 0 old h.frames h.texts new h.answered in (
        all.0,
        all.1,
        inr (inr (record {
          frames = h.frames;
          texts = h.texts;
          asked = h.asked;
          few = h.few;
          told = h.told;
          within = h.within;
          makes = all.2;
        })),
      )

  module _ (limit : ℕ) where
    came_made : (old : GuardData) (bytes text : List ℕ) (new : GuardData)
        → lines.AnswersOne form.memory form.long (IsAnswerBy form) limit old bytes text new → Made old new (MakesBelow form limit bytes text)
    came_made old bytes text new (inl h) = same old new (MakesBelow form limit bytes text) h.1 (inl (refl, h.0))
    came_made old bytes text new (inr (inl h)) = same old new (MakesBelow form limit bytes text) h.2 (inr (inl (refl, h.0, h.1)))
    came_made old bytes text new (inr (inr h)) =
        let these = these_made old (form.many bytes) bytes text new h.1 in
        (these.0, these.1, elim these.2 [ inl none ↦ inl none | inr made ↦ inr (inr made) ])

    pub all_made : (old : GuardData) (requests texts : List (List ℕ)) (new : GuardData)
        → AnswersEach (lines.AnswersOne form.memory form.long (IsAnswerBy form) limit) old requests texts new
        → Made old new (MakeTurns form limit requests texts)
    all_made old requests texts new h =
        each_made (lines.AnswersOne form.memory form.long (IsAnswerBy form) limit) (MakesBelow form limit) came_made old requests texts new h

-- ---- the replica inside
module _ (brings : ReplicaData → Request → List Fact) where
  stays_inside : (old next new : ReplicaData) (asked : GuardRequest) (told : Reply) (ts : List GuardTurn)
      → carried_before asked told (carried_out ts) ≡ carried_out ts → next ≡ old → RunsInside brings next ts new
      → RunsInside brings old (record { asked = asked; told = told } ∷ ts) new
  stays_inside old next new asked told ts none same rest = record {
    own = rest.own;
    are = rest.are ∙ sym none;
    runs = subst (λ (r : ReplicaData). Runs r rest.own new) same rest.runs;
    bringing = subst (λ (r : ReplicaData). RunsBringing brings r rest.own new) same rest.bringing;
  }

  goes_inside : (old next new : ReplicaData) (asked : Request) (told : ReplicaReply) (t : GuardTurn) (ts : List GuardTurn)
      → carried_before t.asked t.told (carried_out ts) ≡ (asked, told) ∷ carried_out ts → IsReply old asked told next
      → RunsInside brings next ts new → RunsInside brings old (t ∷ ts) new
  goes_inside old next new asked told t ts one replies rest =
      let turn : Turn = record { asked = asked; told = told; brought = brings old asked } in record {
        own = turn ∷ rest.own;
        are = ap (λ (l : List (Request × ReplicaReply)). (asked, told) ∷ l) rest.are ∙ sym one;
        runs = (next, replies, rest.runs);
        bringing = (next, refl, replies, rest.bringing);
      }

  declined_inside : (old : GuardData) (asked : Request) (told : Reply) (next : GuardData) (ts : List GuardTurn) (new : ReplicaData) (generation birth : ℕ)
      → Declines old told next → RunsInside brings next.replica ts new
      → RunsInside brings old.replica (record { asked = request.As generation birth asked; told = told } ∷ ts) new
  declined_inside old asked told next ts new generation birth declines rest = ⊎_elim
      (λ stale. subst (λ (r : Reply). RunsInside brings old.replica (record { asked = request.As generation birth asked; told = r } ∷ ts) new)
      (sym stale.1)
      (stays_inside old.replica next.replica new (request.As generation birth asked) (reply.Stale old.generation) ts refl
      (ap (λ (g : GuardData). g.replica) declines.1) rest))
      (λ fresh. subst (λ (r : Reply). RunsInside brings old.replica (record { asked = request.As generation birth asked; told = r } ∷ ts) new)
      (sym fresh.1)
      (stays_inside old.replica next.replica new (request.As generation birth asked) (reply.Fresh old.birth) ts refl
      (ap (λ (g : GuardData). g.replica) declines.1) rest))
      declines.0

  one_inside : (old : GuardData) (asked : GuardRequest) (told : Reply) (next : GuardData) (ts : List GuardTurn) (new : ReplicaData)
      → IsGuardReply old asked told next → RunsInside brings next.replica ts new
      → RunsInside brings old.replica (record { asked = asked; told = told } ∷ ts) new
  one_inside old request.Status told next ts new says rest =
      stays_inside old.replica next.replica new request.Status told ts refl (ap (λ (g : GuardData). g.replica) says.3) rest
  one_inside old (request.Fence generation) told next ts new says rest =
      stays_inside old.replica next.replica new (request.Fence generation) told ts refl
      (⊎_elim (λ yes. ap (λ (g : GuardData). g.replica) yes.2) (λ no. ap (λ (g : GuardData). g.replica) no.1.1) says) rest
  one_inside old (request.As generation birth asked) told next ts new says rest = ⊎_elim
      (λ no. subst (λ (r : Reply). RunsInside brings old.replica (record { asked = request.As generation birth asked; told = r } ∷ ts) new) (sym no.1)
      (stays_inside old.replica next.replica new (request.As generation birth asked) reply.Unguarded ts refl (ap (λ (g : GuardData). g.replica) no.2) rest))
      (λ may. ⊎_elim
      (λ yes. let t : GuardTurn = record { asked = request.As generation birth asked; told = reply.Headed generation birth yes.3.0 } in
      subst (λ (r : Reply). RunsInside brings old.replica (record { asked = request.As generation birth asked; told = r } ∷ ts) new) (sym yes.3.2)
      (goes_inside old.replica next.replica new asked yes.3.0 t ts refl yes.3.1 rest))
      (λ no. declined_inside old asked told next ts new generation birth no.2 rest) may)
      says
  one_inside old (request.Propose generation birth cut) told next ts new says rest =
      stays_inside old.replica next.replica new (request.Propose generation birth cut) told ts refl
      (⊎_elim (λ yes. ap (λ (g : GuardData). g.replica) yes.3) (λ no. ap (λ (g : GuardData). g.replica) no.1.1) says) rest
  one_inside old (request.Admit asked) told next ts new says rest =
      stays_inside old.replica next.replica new (request.Admit asked) told ts refl
      (⊎_elim (λ no. ap (λ (g : GuardData). g.replica) no.2)
      (λ out. ⊎_elim (λ no. ap (λ (g : GuardData). g.replica) no.3)
      (λ known. ⊎_elim (λ yes. ap (λ (g : GuardData). g.replica) yes.2) (λ no. ap (λ (g : GuardData). g.replica) no.2) known.2.2) out) says) rest
  one_inside old (request.Plain asked) told next ts new says rest = ⊎_elim
      (λ no. subst (λ (r : Reply). RunsInside brings old.replica (record { asked = request.Plain asked; told = r } ∷ ts) new) (sym no.2)
      (stays_inside old.replica next.replica new (request.Plain asked) reply.Member ts refl (ap (λ (g : GuardData). g.replica) no.3) rest))
      (λ yes. let t : GuardTurn = record { asked = request.Plain asked; told = reply.Plain yes.2.0 } in
      subst (λ (r : Reply). RunsInside brings old.replica (record { asked = request.Plain asked; told = r } ∷ ts) new) (sym yes.2.2)
      (goes_inside old.replica next.replica new asked yes.2.0 t ts refl yes.2.1 rest))
      says

  pub inside_run : (old : GuardData) (turns : List GuardTurn) (new : GuardData) → GuardRuns old turns new → RunsInside brings old.replica turns new.replica
  inside_run old [] new runs = record {
    own = [];
    are = refl;
    runs = ap (λ (g : GuardData). g.replica) runs;
    bringing = ap (λ (g : GuardData). g.replica) runs;
  }
  inside_run old (t ∷ ts) new runs = one_inside old t.asked t.told runs.0 ts new.replica runs.1 (inside_run runs.0 ts new runs.2)

run_of : (form : Spoken) (brings : ReplicaData → Request → List Fact) (limit : ℕ) (old : GuardData) (requests texts : List (List ℕ)) (new : GuardData)
    → Made form old new (MakeTurns form limit requests texts) → Run form brings limit old requests texts new
run_of form brings limit old requests texts new made = (made.0, made.1, made.2, inside_run brings old made.0 new made.1)

pub answers_run : AnswersRun
answers_run brings limit old lines texts new h =
    run_of by_lines brings limit old lines texts new (all_made by_lines limit old lines texts new h)

pub frames_run : FramesRun
frames_run brings limit old frames texts new h =
    run_of by_frames brings limit old frames texts new (all_made by_frames limit old frames texts new h)

-- ---- no engine
plain_of : (form : Spoken) (limit : ℕ) (old : GuardData) (requests texts : List (List ℕ)) (new : GuardData) → ¬ (IsTrue old.is_member)
    → Made form old new (MakeTurns form limit requests texts) → PlainStream form limit old requests texts new
plain_of form limit old requests texts new out made = (made.0, made.2, λ plain. (plain_runs old made.0 new out plain).0 made.1)

pub plainly_run : PlainlyRun
plainly_run limit old requests texts new out = (
  λ h. plain_of by_lines limit old requests texts new out (all_made by_lines limit old requests texts new h),
  λ h. plain_of by_frames limit old requests texts new out (all_made by_frames limit old requests texts new h),
)
