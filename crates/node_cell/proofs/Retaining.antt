-- What the calls on the state retain.
use Rattle.std.proofs.Common.{◌≡◌, ℕ, List, [], ◌∷◌, ◌++◌, Result, Ok, Err, IfOk, OnOk, OnErr, refl, subst, sym, ◌∙◌, append-nil}
use Rattle.redo_core.specs.Sound.{IsSound}
use Rattle.redo_core.specs.declared.facts.Fact.{Fact}
use Rattle.log_theorems.proofs.Union.{left}
use Rattle.segment_theorems.specs.State.{State}
use Rattle.gossip_core.specs.Absorbing.{MeansBoth}
use Rattle.segment_core.specs.Folding.{Commits}
use Rattle.segment_core.specs.declared.fold_plan.Folded.{Folded}
use Rattle.front_board.specs.FrontWord.{FrontData}
use Rattle.atomic_table.specs.Seated.{TableId}
use Rattle.node_lock.specs.Trail.{Entry}
use Rattle.node_lock.specs.Section.{SectionData}
use Rattle.node_cell.specs.Kept.{KeptData, MeansTrail, KeepsParts}
use Rattle.node_cell.specs.Retaining.{RetainsParts, RunsSection, retains_own}
use Rattle.node_cell.specs.Delivering.{TakesPlace}
use Rattle.node_cell.specs.Folding.{CommitsInto}
use Rattle.node_cell.specs.Gossiping.{MailData, IsFrontWithMail, AbsorbsMail}
use Rattle.node_cell.proofs.Places.{in_log}

module _ (roster : ℕ) (log : List Fact) where
  pub retains_same : (old new : State) → new ≡ old → RetainsParts roster log old new
  retains_same old new same = subst (RetainsParts roster log old) (sym same) (retains_own roster log old)

  pub retains_kept : (old new : State) → KeepsParts roster log old new → RetainsParts roster log old new
  retains_kept old new keeps facts means = (facts, (λ f in_facts. in_facts), keeps facts means)

  pub retains_place : (old new : State) (place : ℕ) → IsSound roster log → TakesPlace log old place new → RetainsParts roster log old new
  retains_place old new place sound takes facts means =
      (facts ++ takes.0 ∷ [], left facts (takes.0 ∷ []), takes.2 roster log facts sound (in_log log place takes.0 takes.1) means)

  -- ---- by what the call answered

  pub commits_into : {X E : Type 0} (folded : Folded) (result : Result X E) (old new : KeptData) → OnOk result (KeepsParts roster log old.segment new.segment)
      → OnOk result (Commits old.segment folded new.segment) → OnErr result (new ≡ old) → CommitsInto roster log folded result old.segment new.segment
  commits_into folded (Ok x) old new keeps commits same = (keeps, commits)
  commits_into folded (Err e) old new keeps commits same = λ i. (same i).segment

  pub retains_commit : {X E : Type 0} (folded : Folded) (result : Result X E) (old new : State) → CommitsInto roster log folded result old new
      → RetainsParts roster log old new
  retains_commit folded (Ok x) old new into = retains_kept old new into.0
  retains_commit folded (Err e) old new into = retains_same old new into

  pub absorbs_mail : {X E : Type 0} (mail : MailData) (result : Result X E) (old new : KeptData)
      → OnOk result (MeansBoth old.segment mail.summary mail.delta new.segment) → OnErr result (new ≡ old) → AbsorbsMail mail result old.segment new.segment
  absorbs_mail mail (Ok x) old new both same = both
  absorbs_mail mail (Err e) old new both same = λ i. (same i).segment

  pub retains_absorb : {E : Type 0} (mail : MailData) (result : Result FrontData E) (old new : State) → IsSound roster log
      → IfOk result (IsFrontWithMail roster log mail) → AbsorbsMail mail result old new → RetainsParts roster log old new
  retains_absorb mail (Ok x) old new sound front both facts means = (
    facts ++ front.sender,
    left facts front.sender,
    both roster log facts front.sender means.0 front.q (record {
      sound = sound;
      means = means.1;
      part = λ f in_sender. front.part f (front.had f in_sender);
      position = front.stood;
      fills = front.sent;
    }),
  )
  retains_absorb mail (Err e) old new sound front same facts means = retains_same old new same facts means

  -- ---- of the state that the holder found

  pub from_found : (found old new : KeptData) → found ≡ old → RetainsParts roster log old.segment new.segment
      → RetainsParts roster log found.segment new.segment
  from_found found old new same retains = subst (λ (k : KeptData). RetainsParts roster log k.segment new.segment) (sym same) retains

  -- the section goes from the old state to the new one
  abbrev pub IsFrom : TableId → KeptData → KeptData → SectionData KeptData → Type 0
  IsFrom lock old new section = section ≡ record { lock = lock; before = old; after = new }

  pub is_from : (at lock : TableId) (found old new : KeptData) (section : SectionData KeptData) → at ≡ lock → found ≡ old → IsFrom at found new section
      → IsFrom lock old new section
  is_from at lock found old new section here same is = is ∙ (λ i. record { lock = here i; before = same i; after = new })

  pub runs_section : (lock : TableId) (old new : KeptData) (section : SectionData KeptData) (entries : List Entry) (step : State → State → Type 0)
      → IsFrom lock old new section → MeansTrail roster log old.segment old.trail → RetainsParts roster log old.segment new.segment
      → new.trail ≡ old.trail ++ entries → step old.segment new.segment → RunsSection roster log lock entries step section
  runs_section lock old new section entries step is kept retains grown does =
      let runs : RunsSection roster log lock entries step (record { lock = lock; before = old; after = new }) =
      record { own = refl; kept = kept; retains = retains; trail = grown; does = does } in
      subst (RunsSection roster log lock entries step) (sym is) runs

  pub quiet_section : (lock : TableId) (old new : KeptData) (section : SectionData KeptData) (step : State → State → Type 0) → IsFrom lock old new section
      → MeansTrail roster log old.segment old.trail → RetainsParts roster log old.segment new.segment → new.trail ≡ old.trail
      → step old.segment new.segment → RunsSection roster log lock [] step section
  quiet_section lock old new section step is kept retains same does =
      runs_section lock old new section [] step is kept retains (same ∙ sym (append-nil old.trail)) does
