-- A step of an open volume.
use Rattle.std.proofs.Common.{◌≡◌, ℕ, ⊎_elim, List, [], ◌∷◌, ◌++◌, Bool, true, false, Option, Some, None, refl, sym, ◌∙◌, subst, ap}
use Rattle.std.specs.Prelude.{◌==◌, if◌then◌else◌}
use Rattle.std.specs.List.{Contains}
use Rattle.std.proofs.lemmas.List.Elements.{Contains-push_cases}
use Rattle.redo_core.specs.Data.{RecordData, CutData, advance_of}
use Rattle.redo_core.specs.declared.facts.Fact.{Fact}
use Rattle.redo_core.specs.declared.facts.Fact.TheVariants.{Record, Advance}
use Rattle.redo_core.proofs.Members.{here, there, filtered}
use Rattle.messages.specs.Summaries.{SummaryData}
use Rattle.replica.specs.declared.replies.Reply.{Reply as SegmentReply}
use Rattle.replica.specs.declared.replies.Reply.TheVariants as told
use Rattle.guard.specs.declared.replies.Reply.{Reply}
use Rattle.guard.specs.declared.replies.Reply.TheVariants as reply
use Rattle.redo_core.specs.declared.patches.Patch.{Patch}
use Rattle.volume.specs.declared.actions.Action.{Action}
use Rattle.volume.specs.declared.actions.Action.TheVariants.{Committed, Durable, Refused}
use Rattle.volume.specs.declared.actions.Fault.{Fault}
use Rattle.volume.specs.declared.actions.Fault.TheVariants.{Fenced}
use Rattle.volume.specs.declared.errands.Errand.TheVariants as errand
use Rattle.volume.specs.declared.errands.Query.TheVariants.{Fence}
use Rattle.volume.specs.declared.phases.Phase.TheVariants as phase
use Rattle.volume.specs.declared.phases.Session.{Session}
use Rattle.volume.specs.declared.phases.Writing.{Writing}
use Rattle.volume.specs.declared.turns.Transition.{Transition}
use Rattle.volume.specs.Asking.{asks_of}
use Rattle.volume.specs.Turning.{Stays}
use Rattle.volume.specs.Writing.{errand_of, sends_record, RefusesCall, AddsRecord, WritesPage, EndsTransaction, RaisesDurably, RaisesPoint, brings, stores_of, HearsSegment, HearsWriting}
use Rattle.volume_theorems.specs.Runs.{VolumeRun}
use Rattle.volume_theorems.specs.Opening.{HasAsked, IsCutSent}
use Rattle.volume_logs.specs.Histories.{History}
use Rattle.volume_engines.specs.Lives.{Life, Guards}
use Rattle.volume_engines.proofs.Sending.{IsOwnGeneration, RightAction, AllRight, RightErrand, all_append, to_node, to_each, query_one}
use Rattle.volume_engines.proofs.Knowing.{Own, HasOwn, LeavesTurn}
use Rattle.volume_engines.proofs.Turning.{when_stays, when_stops}

module _ (run : VolumeRun) (h : History) (guards : Guards) (e : ℕ) (life : Life) (n : ℕ) (asked : HasAsked run e (life.moments n)) where
  abbrev T : ℕ
  T = life.moments n

  abbrev Any : SummaryData → Type 0
  Any s = Unit {0}

  abbrev F : Fact → Type 0
  F = Own life n

  abbrev Good : List Action → Type 0
  Good actions = AllRight run h e Any F T actions

  -- ---- what is sent
  errand_right : (r : RecordData) (b : Bool) → F (Record r) → RightErrand run h e Any F T (if b then errand.Close r else errand.Store r)
  errand_right r true own = (own, asked)
  errand_right r false own = own

  committed_right : (number : ℕ) (b : Bool) → Good (if b then Committed number ∷ [] else [])
  committed_right number true = (tt, tt)
  committed_right number false = tt

  record_right : (s : Session) (r : RecordData) → IsOwnGeneration run e s.generation → F (Record r) → Good (sends_record s r)
  record_right s r mine own =
      all_append (RightAction run h e Any F T) _ (if r.page == 0 then Committed r.number ∷ [] else [])
      (to_each run h e Any F T 0 s.generation mine s.births (errand_of r) (errand_right r (r.page == 0) own)) (committed_right r.number (r.page == 0))

  stores_right : (node generation birth : ℕ) (rs : List RecordData) → IsOwnGeneration run e generation → HasOwn F rs → Good (stores_of node generation birth rs)
  stores_right node generation birth [] mine own = tt
  stores_right node generation birth (r ∷ rs) mine own =
      all_append (RightAction run h e Any F T) (asks_of node generation birth (errand.Store r)) (stores_of node generation birth rs)
      (to_node run h e Any F T node generation birth mine (errand.Store r) (own r (here r rs))) (stores_right node generation birth rs mine (λ x inside. own x (there r rs x inside)))

  brings_right : (w : Writing) (node : ℕ) (b : Option ℕ) → IsCutSent run T w.cut → IsOwnGeneration run e w.session.generation → HasOwn F w.backlog
      → Good (brings w node b)
  brings_right w node None sent mine own = query_one run h e Any F T node (Fence w.session.generation) mine
  brings_right w node (Some birth) sent mine own =
      all_append (RightAction run h e Any F T)
      (asks_of node w.session.generation birth (errand.Begin w.cut) ++ stores_of node w.session.generation birth w.backlog)
      (asks_of node w.session.generation birth errand.Report)
      (all_append (RightAction run h e Any F T) (asks_of node w.session.generation birth (errand.Begin w.cut)) (stores_of node w.session.generation birth w.backlog)
      (to_node run h e Any F T node w.session.generation birth mine (errand.Begin w.cut) (asked, sent)) (stores_right node w.session.generation birth w.backlog mine own))
      (to_node run h e Any F T node w.session.generation birth mine errand.Report asked)

  as_listed : (actions listed : List Action) → actions ≡ listed → Good listed → Good actions
  as_listed actions listed same is = subst (λ (xs : List Action). Good xs) (sym same) is

  -- ---- calls
  -- the truncation of the epoch and the generation stay, what is asked is right, and the backlog is the life's own
  abbrev pub Keeps : Writing → Writing → List Action → Type 0
  Keeps old new actions = (new.cut ≡ old.cut) × (new.session.generation ≡ old.session.generation) × Good actions × HasOwn F new.backlog

  module _ (old new : Writing) (actions : List Action) (mine : IsOwnGeneration run e old.session.generation) (own : HasOwn F old.backlog) where
    refuses : (f : Fault) → RefusesCall old f actions new → Keeps old new actions
    refuses f says = (
      ap (λ (w : Writing). w.cut) says.1,
      ap (λ (w : Writing). w.session.generation) says.1,
      as_listed actions (Refused f ∷ []) says.0 (tt, tt),
      subst (λ (w : Writing). HasOwn F w.backlog) (sym says.1) own,
    )

    -- a record that the step writes is the life's own
    abbrev Emits : Type 0
    Emits = (r : RecordData) → new.backlog ≡ old.backlog ++ r ∷ [] → F (Record r)

    adds_right : (r : RecordData) → Emits → AddsRecord old r actions new → Keeps old new actions
    adds_right r emits says = ⊎_elim
        (λ writes.
        let last : F (Record r) = emits r writes.backlog in
        let both : HasOwn F (old.backlog ++ r ∷ []) = λ x inside. ⊎_elim
        (λ (before : Contains old.backlog x). own x before)
        (λ (same : r ≡ x). subst (λ (y : RecordData). F (Record y)) same last)
        (Contains-push_cases old.backlog r x inside) in (
          writes.same.cut,
          ap (λ (s : Session). s.generation) writes.same.session,
          as_listed actions (sends_record old.session r) writes.asks (record_right old.session r mine last),
          subst (λ (rs : List RecordData). HasOwn F rs) (sym writes.backlog) both,
        ))
        (λ no. refuses no.0 no.2)
        says

    pub page_right : (page : ℕ) (init : Bool) (patches : List Patch) → Emits → WritesPage old page init patches actions new → Keeps old new actions
    page_right page init patches emits says = ⊎_elim (λ no. refuses _ no.1) (λ adds. adds_right _ emits adds.1) says

    pub end_right : (header : List ℕ) → Emits → EndsTransaction old header actions new → Keeps old new actions
    end_right header emits says = ⊎_elim (λ no. refuses _ no.1) (λ adds. adds_right _ emits adds.1) says

    pub raise_right : (reader point : ℕ) → (RaisesDurably old reader point new actions → F (Advance (advance_of old.writer.epoch reader point)))
        → RaisesPoint old reader point actions new → Keeps old new actions
    raise_right reader point emits says = ⊎_elim
        (λ raises. (
          raises.same.cut,
          ap (λ (s : Session). s.generation) raises.same.session,
          as_listed actions _ raises.asks (to_each run h e Any F T 0 old.session.generation mine old.session.births (errand.Raise _) (emits raises)),
          subst (λ (rs : List RecordData). HasOwn F rs) (sym raises.backlog) own,
        ))
        (λ no. refuses no.0 no.2)
        says

  -- ---- replies
  module _ (old : Writing) (sent : IsCutSent run T old.cut) (mine : IsOwnGeneration run e old.session.generation) (own : HasOwn F old.backlog) where
    abbrev Left : Writing → Transition → Type 0
    Left new t = LeavesTurn run h guards e life n (phase.Open old) (phase.Open new) t

    goes_to : (new : Writing) (t : Transition) (actions : List Action) → new.cut ≡ old.cut → new.session.generation ≡ old.session.generation → HasOwn F new.backlog
        → Good actions → Stays t actions → Left new t
    goes_to new t actions same under backlog right stays =
        when_stays run h guards e life n (phase.Open old) (phase.Open new) t actions stays
        (record {
          knows = (asked, subst (λ (c : CutData). IsCutSent run T c) (sym same) sent, mine ∙ sym under, backlog);
          right = right;
          wider = λ s is. tt;
        })

    -- the same records wait
    as_before : (new : Writing) → new.backlog ≡ old.backlog → HasOwn F new.backlog
    as_before new same = subst (λ (rs : List RecordData). HasOwn F rs) (sym same) own

    idle : (new : Writing) (t : Transition) → Stays t [] → new ≡ old → Left new t
    idle new t stays same =
        goes_to new t [] (ap (λ (w : Writing). w.cut) same) (ap (λ (w : Writing). w.session.generation) same)
        (as_before new (ap (λ (w : Writing). w.backlog) same)) tt stays

    hears_segment : (quorum node : ℕ) (shown : SegmentReply) (new : Writing) (t : Transition) → HearsSegment quorum old node shown new t → Left new t
    hears_segment quorum node (told.Front front) new t says = ⊎_elim
        (λ other. idle new t other.1 other.2)
        (λ mine. ⊎_elim
        (λ only. goes_to new t [] only.1.1 (ap (λ (s : Session). s.generation) only.1.0) (as_before new only.4) tt only.5)
        (λ durable.
        goes_to new t (Durable durable.0 ∷ []) durable.2.1 (ap (λ (s : Session). s.generation) durable.2.0)
        (subst (λ (rs : List RecordData). HasOwn F rs) (sym durable.5) (λ r inside. own r (filtered _ old.backlog r inside).0)) (tt, tt) durable.6)
        mine.1)
        says
    hears_segment quorum node other new t says = idle new t says.0 says.1

    hears_late : (node generation birth : ℕ) (new : Writing) (t : Transition) → HearsWriting 0 old node (reply.Admitted generation birth) new t → Left new t
    hears_late node generation birth new t says = ⊎_elim
        (λ no. idle new t no.1 no.2)
        (λ late.
        goes_to new t (brings old node (Some birth)) (ap (λ (w : Writing). w.cut) late.1) (ap (λ (w : Writing). w.session.generation) late.1)
        (as_before new (ap (λ (w : Writing). w.backlog) late.1)) (brings_right old node (Some birth) sent mine own) late.2)
        says

    pub hears_writing : (quorum node : ℕ) (shown : Reply) (new : Writing) (t : Transition) → HearsWriting quorum old node shown new t → Left new t
    hears_writing quorum node (reply.Headed generation birth shown) new t says = ⊎_elim
        (λ mine. hears_segment quorum node shown new t mine.1)
        (λ no. idle new t no.1 no.2)
        says
    hears_writing quorum node (reply.Fenced generation birth accepted) new t says = hears_late node generation birth new t says
    hears_writing quorum node (reply.Admitted generation birth) new t says = hears_late node generation birth new t says
    hears_writing quorum node (reply.Stale generation) new t says = ⊎_elim
        (λ up. when_stops run h guards e life n (phase.Open old) (phase.Open new) t (Fenced generation) up.1)
        (λ no. idle new t no.1 no.2)
        says
    hears_writing quorum node other new t says = idle new t says.0 says.1

    pub retries_writing : (node : ℕ) (b : Option ℕ) (t : Transition) → Stays t (brings old node b) → Left old t
    retries_writing node b t says = goes_to old t (brings old node b) refl refl own (brings_right old node b sent mine own) says
