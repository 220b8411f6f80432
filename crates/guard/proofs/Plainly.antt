-- A guard that is asked plainly, beside its replica alone.
use Rattle.std.proofs.Common.{◌≡◌, ⊎_elim, inr, List, [], ◌∷◌, ◌∙◌, refl, sym, subst, ap, map, IsTrue}
use Rattle.std.specs.List.{AllByRecursion}
use Rattle.replica.specs.declared.requests.Request.{Request}
use Rattle.replica.specs.declared.replies.Reply.{Reply}
use Rattle.replica.specs.Parts.{ReplicaData}
use Rattle.replica.specs.Machine.{IsReply}
use Rattle.replica.specs.Meaning.{Turn, Runs}
use Rattle.guard.specs.declared.requests.Request.TheVariants as request
use Rattle.guard.specs.declared.replies.Reply.TheVariants as reply
use Rattle.guard.specs.Data.{GuardData, around}
use Rattle.guard.specs.Guarding.{IsGuardReply, AsksPlainly}
use Rattle.guard.specs.Keeping.{GuardTurn, GuardRuns}
use Rattle.guard.specs.Plainly.{IsPlainTurn, plain_turn, RunsAsReplica, PlainRuns}

-- ---- one request
pub record Answers (old : GuardData) (asked : Request) (t : GuardTurn) (next : GuardData) : Type 0 where
  pub answer : Reply
  pub is : IsReply old.replica asked answer next.replica
  pub told : t.told ≡ reply.Plain answer
  pub round : next ≡ around old next.replica

answers : (old : GuardData) (asked : Request) (t : GuardTurn) (next : GuardData) → ¬ (IsTrue old.is_member) → t.asked ≡ request.Plain asked
    → IsGuardReply old t.asked t.told next → Answers old asked t next
answers old asked t next out plain says =
    let here : AsksPlainly old asked t.told next = subst (λ r. IsGuardReply old r t.told next) plain says in
    ⊎_elim (λ no. absurd (out no.0)) (λ yes. record { answer = yes.2.0; is = yes.2.1; told = yes.2.2; round = yes.1 }) here

out_around : (old next : GuardData) → ¬ (IsTrue old.is_member) → next ≡ around old next.replica → ¬ (IsTrue next.is_member)
out_around old next out round member = out (subst (λ b. IsTrue b) (ap (λ g. g.is_member) round) member)

-- ---- from the guard to the replica
abbrev turn_of : Request → Reply → Turn
turn_of asked told = record { asked = asked; told = told; brought = [] }

turn_is : (t : GuardTurn) (asked : Request) (answer : Reply) → t.asked ≡ request.Plain asked → t.told ≡ reply.Plain answer
    → t ≡ plain_turn (turn_of asked answer)
turn_is t asked answer plain told =
    let first : t ≡ record { asked = request.Plain asked; told = t.told } = subst (λ a. t ≡ record { asked = a; told = t.told }) plain refl in
    subst (λ a. t ≡ record { asked = request.Plain asked; told = a }) told first

one_more : (old : GuardData) (asked : Request) (t : GuardTurn) (ts : List GuardTurn) (next new : GuardData) → t.asked ≡ request.Plain asked
    → Answers old asked t next → RunsAsReplica next ts new → RunsAsReplica old (t ∷ ts) new
one_more old asked t ts next new plain here later =
    let first : t ≡ plain_turn (turn_of asked here.answer) = turn_is t asked here.answer plain here.told in
    let all : t ∷ ts ≡ map plain_turn (turn_of asked here.answer ∷ later.0) =
    ap (λ x. x ∷ ts) first ∙ ap (λ xs. plain_turn (turn_of asked here.answer) ∷ xs) later.1 in
    let round : new ≡ around old new.replica = later.3 ∙ ap (λ g. around g new.replica) here.round in
    (turn_of asked here.answer ∷ later.0, all, (next.replica, here.is, later.2), round)

as_replica : (old : GuardData) (turns : List GuardTurn) (new : GuardData) → ¬ (IsTrue old.is_member) → AllByRecursion IsPlainTurn turns
    → GuardRuns old turns new → RunsAsReplica old turns new
as_replica old [] new out plain runs = ([], refl, ap (λ g. g.replica) runs, runs ∙ ap (λ g. around old g.replica) (sym runs))
as_replica old (t ∷ ts) new out plain runs =
    let here : Answers old plain.0.0 t runs.0 = answers old plain.0.0 t runs.0 out plain.0.1 runs.1 in
    one_more old plain.0.0 t ts runs.0 new plain.0.1 here
    (as_replica runs.0 ts new (out_around old runs.0 out here.round) plain.1 runs.2)

-- ---- from the replica to the guard
from_replica : (old : GuardData) (own : List Turn) (next : ReplicaData) → ¬ (IsTrue old.is_member) → Runs old.replica own next
    → GuardRuns old (map plain_turn own) (around old next)
from_replica old [] next out runs = ap (λ r. around old r) runs
from_replica old (t ∷ ts) next out runs =
    (around old runs.0, inr ((λ both. out both.0), refl, (t.told, runs.1, refl)), from_replica (around old runs.0) ts next out runs.2)

from_own : (old : GuardData) (turns : List GuardTurn) (new : GuardData) → ¬ (IsTrue old.is_member) → RunsAsReplica old turns new
    → GuardRuns old turns new
from_own old turns new out own =
    let runs : GuardRuns old (map plain_turn own.0) (around old new.replica) = from_replica old own.0 new.replica out own.2 in
    subst (λ ts. GuardRuns old ts new) (sym own.1) (subst (λ g. GuardRuns old (map plain_turn own.0) g) (sym own.3) runs)

pub plain_runs : PlainRuns
plain_runs old turns new out plain = (as_replica old turns new out plain, from_own old turns new out)
