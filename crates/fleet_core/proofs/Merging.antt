-- A join, a comparison and a wipe are answered as a node is that has the facts which the segment means.
use Rattle.std.proofs.Common.{◌≡◌, ℕ, ◌<◌, ◌≤◌, ◌⊎◌, inl, inr, ⊎_elim, arith, List, [], refl}
use Rattle.std.proofs.Common.{sym, subst, Bool, Option, Some, None, Result, Ok, Err, OnOk, OnErr, IfErr}
use Rattle.std.specs.Prelude.{unwrap_or}
use Rattle.std.specs.List.{Contains}
use Rattle.redo_core.specs.Data.{AdvanceData}
use Rattle.redo_core.specs.Roster.{point_of}
use Rattle.redo_core.specs.declared.facts.Fact.{Fact}
use Rattle.log_theorems.proofs.Log.{log_of_sound}
use Rattle.segment_theorems.specs.State.{State, empty_state}
use Rattle.segment_theorems.specs.Means.{Means}
use Rattle.segment_theorems.specs.Joining.{JoinedPoint, Joins}
use Rattle.segment_theorems.proofs.Bare.{empty_means}
use Rattle.segment_theorems.proofs.Booked.{epoch_of}
use Rattle.segment_theorems.proofs.Joining.{join_law}
use Rattle.segment_theorems.proofs.Same.{meaning_law}
use Rattle.segment_core.specs.declared.answers.Refusal.{Refusal}
use Rattle.segment_core.specs.declared.answers.Refusal.TheVariants as refusal
use Rattle.segment_join.specs.Joining.{MeansUnion, AreOfOneLog}
use Rattle.segment_join.specs.Sameness.{ReportsSame}
use Rattle.script_steps.specs.declared.steps.Step.TheVariants.{Join, Same, Covers, Wipe}
use Rattle.fleet_core.specs.declared.replies.Reply.{Reply}
use Rattle.fleet_core.specs.declared.replies.Reply.TheVariants.{Joined, Answer, Wiped, Memory}
use Rattle.fleet_core.specs.Replying.{refusal_reply, joined_reply}
use Rattle.fleet_core.specs.AtNode.{OwnFollows}
use Rattle.fleet_core.specs.Calls.{ReportsCovers}

-- ---- joins

-- what a state knows together with itself is what it knows
itself : {roster : ℕ} (log F : List Fact) (s : State) → Means roster log F s → Joins s s s
itself log F s means =
    let m = means.1 in
    let k = s.book.complete in
    let waits : (a : AdvanceData) → Contains s.book.waits a → k < a.epoch = λ a h. ((m.book.waits a).0 h).1 in
    let none_more : (reader n : ℕ) → JoinedPoint k s.book.points s.book.waits s.book.points s.book.waits reader n → n ≤ point_of s.book.points reader =
    λ reader n h. ⊎_elim
    (λ (e : n ≡ point_of s.book.points reader). omega (arith, e))
    (λ t. ⊎_elim
    (λ (e : n ≡ point_of s.book.points reader). omega (arith, e))
    (λ (w : (a : AdvanceData) × (Contains s.book.waits a ⊎ Contains s.book.waits a) × (a.epoch ≤ k) × (a.reader ≡ reader) × (a.point ≡ n)).
    let above : k < w.0.epoch = waits w.0 (⊎_elim (λ (x : Contains s.book.waits w.0). x) (λ (x : Contains s.book.waits w.0). x) w.1) in
    let counts : w.0.epoch ≤ k = w.2 in
    absurd (omega (arith, above, counts)))
    t)
    h in
    record {
      book = record {
        cuts = λ c. (λ h. inl h, λ h. ⊎_elim (λ (x : Contains s.book.cuts c). x) (λ (x : Contains s.book.cuts c). x) h);
        complete = epoch_of m;
        points = record { count = refl; each = λ reader is. (inr (inl refl), none_more reader) };
        waits = λ a. (λ h. (inl h, waits a h), λ h. ⊎_elim (λ (x : Contains s.book.waits a). x) (λ (x : Contains s.book.waits a). x) h.0);
      };
      base = (inl refl, omega arith, omega arith);
      of_both = λ r h. inl h;
      kept = λ r h matters. inl (⊎_elim (λ x. x) (λ x. x) h);
      images = λ g. inl (refl, refl);
      newest = λ g. (omega arith, omega arith);
    }

-- a node that is joined with itself
pub follows_own_join : (readers : ℕ) (s : State) (node from : ℕ) → OwnFollows readers s None (Join node from) Joined s
follows_own_join readers s node from = λ roster log facts others messages size sound t means beside.
    (inr refl, join_law log facts others s s s (log_of_sound roster log sound) means beside (itself log facts s means))

join_without_memory : (readers : ℕ) (s other : State) (node from : ℕ) → OwnFollows readers s (Some other) (Join node from) Memory s
join_without_memory readers s other node from = λ roster log facts others messages size sound t means beside. (inl refl, means)

pub follows_join : (readers : ℕ) (old other new : State) (node from : ℕ) (answer : Result (Unit {0}) Refusal) (reply : Reply)
    → OnOk answer (MeansUnion old other new) → IfErr answer (λ e. AreOfOneLog old other → e ≡ refusal.Memory) → OnErr answer (new ≡ old)
    → reply ≡ joined_reply answer → OwnFollows readers old (Some other) (Join node from) reply new
follows_join readers old other new node from (Ok done) reply union sound same is =
    subst (λ r. OwnFollows readers old (Some other) (Join node from) r new) (sym is)
    (λ roster log facts others messages size s t means beside. (inr refl, union roster log facts others s means beside))
follows_join readers old other new node from (Err why) reply union sound same is = λ roster log facts others messages size s t means beside.
    let e : why ≡ refusal.Memory = sound (roster, log, facts, others, s, means, beside) in
    let told : reply ≡ Memory = subst (λ w. reply ≡ refusal_reply w) e is in
    subst (λ r. OwnFollows readers old (Some other) (Join node from) r new) (sym told)
    (subst (λ x. OwnFollows readers old (Some other) (Join node from) Memory x) (sym same)
    (join_without_memory readers old other node from)) roster log facts others messages size s t means beside

-- ---- comparisons

pub follows_same : (readers : ℕ) (s : State) (other : Option State) (node than : ℕ) (answer : Bool) → ReportsSame s (unwrap_or other s) answer
    → OwnFollows readers s other (Same node than) (Answer answer) s
follows_same readers s other node than answer tells = λ roster log facts others messages size sound t means beside.
    let l = log_of_sound roster log sound in (
      inr (record {
        answer = answer;
        tells =
            λ x y own its. tells x y ((meaning_law log facts s x l means).1 own) ((meaning_law log others (unwrap_or other s) y l beside).1 its);
        is = refl;
      }),
      means,
    )

pub follows_covers : (readers : ℕ) (s : State) (other : Option State) (node than : ℕ) (answer : Bool) → ReportsCovers s (unwrap_or other s) answer
    → OwnFollows readers s other (Covers node than) (Answer answer) s
follows_covers readers s other node than answer tells = λ roster log facts others messages size sound t means beside.
    let l = log_of_sound roster log sound in (
      inr (record {
        answer = answer;
        tells =
            λ y x own its. tells y x ((meaning_law log facts s y l means).1 own) ((meaning_law log others (unwrap_or other s) x l beside).1 its);
        is = refl;
      }),
      means,
    )

-- ---- wipes

pub follows_wipe : (readers : ℕ) (s : State) (other : Option State) (node : ℕ) → OwnFollows readers s other (Wipe node) Wiped (empty_state readers)
follows_wipe readers s other node =
    λ roster log facts others messages size sound t means beside.
    (inr refl, subst (λ n. Means roster log [] (empty_state n)) (sym size) (empty_means roster log))
