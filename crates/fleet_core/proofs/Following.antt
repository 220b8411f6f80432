-- A segment's answers are those of a node that has the facts which it means.
use Rattle.std.proofs.Common.{◌≡◌, ℕ, inl, inr, List, refl, sym, subst, Option, Result, Ok, Err, OnOk, OnErr, IfOk, IfErr, rules}
use Rattle.redo_core.specs.Sound.{IsSound}
use Rattle.redo_core.specs.Position.{Position}
use Rattle.redo_core.specs.Answer.ReadAnswer.{Image as OfImage, Below as OfBelow, Above as OfAbove}
use Rattle.redo_core.specs.declared.facts.Fact.{Fact}
use Rattle.redo_core.specs.declared.refusal.Refused.{Refused}
use Rattle.segment_theorems.specs.State.{State}
use Rattle.segment_theorems.specs.Means.{MeansAt}
use Rattle.segment_theorems.specs.Promises.{TakesFact, KeepsMeaningWith}
use Rattle.segment_core.specs.Folding.{IsFoldOf}
use Rattle.segment_core.specs.declared.fold_plan.Folded.{Folded}
use Rattle.segment_core.specs.Taking.{ReportsChange}
use Rattle.segment_core.specs.Refusing.{FitsSoundLog}
use Rattle.segment_core.specs.Reading.{IsFrontAt, IsReadResult}
use Rattle.segment_core.specs.declared.answers.Front.{Front}
use Rattle.segment_core.specs.declared.answers.Taken.{Taken}
use Rattle.segment_core.specs.declared.answers.Taken.TheVariants as taken
use Rattle.segment_core.specs.declared.answers.Refusal.{Refusal}
use Rattle.segment_core.specs.declared.answers.Refusal.TheVariants as refusal
use Rattle.segment_core.specs.declared.answers.ReadFault.{ReadFault}
use Rattle.segment_core.specs.declared.answers.ReadFault.TheVariants as fault
use Rattle.script_steps.specs.declared.steps.Step.TheVariants.{Take, Fold, Front as AskFront, Read}
use Rattle.fleet_core.specs.declared.replies.Reply.{Reply}
use Rattle.fleet_core.specs.declared.replies.Reply.TheVariants.{Folded as FoldedIs, Front as FrontIs, Memory}
use Rattle.fleet_core.specs.Replying.{refusal_reply, taken_reply, read_reply, fault_reply}
use Rattle.fleet_core.specs.AtNode.{OwnFollows}
use Rattle.fleet_core.specs.Calls.{Takes}
use Rattle.segment_core.proofs.Finality.{fold_is_final}
use Rattle.segment_core.proofs.Taking.{take_tells, take_sound}
use Rattle.segment_theorems.proofs.Knowing.{unchanged_exactly, no_conflict}

fold_without_memory : (readers : ℕ) (other : Option State) (s : State) (node g : ℕ) → OwnFollows readers s other (Fold node g) Memory s
fold_without_memory readers other s node g = λ roster log facts others messages size sound t means beside. (inl refl, means)

-- a refusal of a fact that fits a sound log is for lack of memory
refused_at : (readers : ℕ) (other : Option State) (old new : State) (node : ℕ) (fact : Fact) (why : Refusal) (reply : Reply)
    → (FitsSoundLog old fact → why ≡ refusal.Memory) → new ≡ old → reply ≡ refusal_reply why → OwnFollows readers old other (Take node fact) reply new
refused_at readers other old new node fact why reply sound same is = search rules

follows_take : (readers : ℕ) (other : Option State) (old new : State) (node : ℕ) (fact : Fact) (answer : Result Taken (Refused Fact Refusal))
    (reply : Reply) → OnOk answer (TakesFact old fact new) → IfOk answer (ReportsChange old fact) → IfErr answer
    (λ e. FitsSoundLog old fact → e.fault ≡ refusal.Memory) → OnErr answer (new ≡ old) → reply ≡ taken_reply answer → OwnFollows readers old other
    (Take node fact) reply new
follows_take readers other old new node fact (Ok taken.Changed) reply takes tells sound same is =
    subst (λ r. OwnFollows readers old other (Take node fact) r new) (sym is)
    (λ roster log facts others messages size s t means beside. (
      inr (inl (
        refl,
        λ m before later. let e : taken.Changed ≡ taken.Unchanged = (tells roster log facts m s t means before).1 later in
            cc,
      )),
      takes roster log facts s t means,
    ))
follows_take readers other old new node fact (Ok taken.Unchanged) reply takes tells sound same is =
    subst (λ r. OwnFollows readers old other (Take node fact) r new) (sym is)
    (λ roster log facts others messages size s t means beside.
    (inr (inr (refl, λ m before. (tells roster log facts m s t means before).0 refl)), takes roster log facts s t means))
follows_take readers other old new node fact (Err refused) reply takes tells sound same is =
    refused_at readers other old new node fact refused.fault reply sound same is

-- a take that is replied as the segment answers it
pub follows_taken : (readers : ℕ) (other : Option State) (old new : State) (node : ℕ) (fact : Fact) (reply : Reply) → Takes old fact reply new
    → OwnFollows readers old other (Take node fact) reply new
follows_taken readers other old new node fact reply takes =
    let e = takes.1 in
    follows_take readers other old new node fact takes.0 reply e.means (take_tells unchanged_exactly old fact takes.0 e.known)
    (take_sound no_conflict old fact takes.0 e.refused) e.unchanged takes.2

pub follows_front : (readers : ℕ) (other : Option State) (s : State) (node : ℕ) (front : Front)
    → ((roster : ℕ) (log facts : List Fact) (p : Position) → IsSound roster log → MeansAt roster log facts p s → IsFrontAt p front)
    → OwnFollows readers s other (AskFront node) (FrontIs front) s
follows_front readers other s node front says =
    λ roster log facts others messages size sound t means beside.
    (record { p = means.0; position = means.1.position; front = front; tells = says roster log facts means.0 sound means.1; is = refl }, means)

pub follows_read : (readers : ℕ) (other : Option State) (s : State) (node g q offset len : ℕ) (answer : Result (List ℕ) ReadFault) (reply : Reply)
    → ((roster : ℕ) (log facts : List Fact) (p : Position) → IsSound roster log → MeansAt roster log facts p s → IsReadResult facts p g q answer)
    → reply ≡ read_reply answer → OwnFollows readers s other (Read node g q offset len) reply s
follows_read readers other s node g q offset len (Ok image) reply says is =
    λ roster log facts others messages size sound t means beside.
    (inr (record { p = means.0; position = means.1.position; answer = OfImage image; tells = says roster log facts means.0 sound means.1; is = is }), means)
follows_read readers other s node g q offset len (Err (fault.Below min)) reply says is =
    λ roster log facts others messages size sound t means beside.
    (inr (record { p = means.0; position = means.1.position; answer = OfBelow min; tells = says roster log facts means.0 sound means.1; is = is }), means)
follows_read readers other s node g q offset len (Err (fault.Above complete)) reply says is =
    λ roster log facts others messages size sound t means beside.
    (inr (record { p = means.0; position = means.1.position; answer = OfAbove complete; tells = says roster log facts means.0 sound means.1; is = is }), means)
follows_read readers other s node g q offset len (Err (fault.BrokenBlockChain page number)) reply says is =
    λ roster log facts others messages size sound t means beside. absurd (says roster log facts means.0 sound means.1)
follows_read readers other s node g q offset len (Err fault.Memory) reply says is =
    λ roster log facts others messages size sound t means beside. (inl is, means)

pub follows_fold : (readers : ℕ) (other : Option State) (old new : State) (node g : ℕ) (folded : Folded)
    → ((roster : ℕ) (log facts : List Fact) (p : Position) → IsSound roster log → MeansAt roster log facts p old → IsFoldOf facts p g folded)
    → KeepsMeaningWith old folded.page folded.version folded.image new → OwnFollows readers old other (Fold node g) FoldedIs new
follows_fold readers other old new node g folded plans keeps = λ roster log facts others messages size sound t means beside.
    (inr refl, keeps roster log facts sound (fold_is_final roster log facts old g folded means (plans roster log facts means.0 sound means.1)) means)

-- a page that could not be planned
pub follows_no_plan : (readers : ℕ) (other : Option State) (s : State) (node g : ℕ) (why : ReadFault) (reply : Reply)
    → ((roster : ℕ) (log facts : List Fact) (p : Position) → IsSound roster log → MeansAt roster log facts p s → why ≡ fault.Memory) → reply ≡ fault_reply why
    → OwnFollows readers s other (Fold node g) reply s
follows_no_plan readers other s node g why reply says is = λ roster log facts others messages size sound t means beside.
    let e : why ≡ fault.Memory = says roster log facts means.0 sound means.1 in
    let told : reply ≡ Memory = subst (λ w. reply ≡ fault_reply w) e is in
    subst (λ r. OwnFollows readers s other (Fold node g) r s) (sym told)
    (fold_without_memory readers other s node g) roster log facts others messages size sound t means beside
