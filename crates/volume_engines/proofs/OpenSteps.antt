-- What one step of an open volume does, in one of five ways.
use Rattle.std.proofs.Common.{◌≡◌, ℕ, ◌+◌, ◌<◌, ◌≤◌, ◌⊎◌, ⊎_elim, inl, inr, List, [], ◌∷◌, ◌++◌, length, Bool, true, false, map, Option, Some, None, refl, sym, ◌∙◌, subst, ap, arith}
use Rattle.std.specs.Prelude.{◌==◌, if◌then◌else◌}
use Rattle.std.specs.List.{AllByRecursion}
use Rattle.std.proofs.lemmas.List.{drop_all, drop_at}
use Rattle.redo_core.specs.Data.{RecordData, AdvanceData, advance_of}
use Rattle.redo_core.specs.declared.facts.Fact.TheVariants.{Record, Advance}
use Rattle.redo_core.specs.declared.patches.Patch.{Patch}
use Rattle.redo_writer.specs.Layout.{commit_patch}
use Rattle.segment_core.specs.declared.answers.Front.{Front}
use Rattle.replica.specs.declared.replies.Reply.{Reply as SegmentReply}
use Rattle.replica.specs.declared.replies.Reply.TheVariants as segment
use Rattle.guard.specs.declared.requests.Request.{Request}
use Rattle.guard.specs.declared.replies.Reply.{Reply}
use Rattle.guard.specs.declared.replies.Reply.TheVariants as reply
use Rattle.volume.specs.declared.actions.Action.{Action}
use Rattle.volume.specs.declared.actions.Action.TheVariants.{Ask, Committed, Durable, Refused}
use Rattle.volume.specs.declared.actions.Fault.{Fault}
use Rattle.volume.specs.declared.actions.Fault.TheVariants.{Fenced}
use Rattle.volume.specs.declared.errands.Errand.{Errand}
use Rattle.volume.specs.declared.errands.Errand.TheVariants as errand
use Rattle.volume.specs.declared.events.Event.{Event}
use Rattle.volume.specs.declared.events.Event.TheVariants as event
use Rattle.volume.specs.declared.phases.Phase.{Phase}
use Rattle.volume.specs.declared.phases.Phase.TheVariants as phase
use Rattle.volume.specs.declared.phases.Writing.{Writing}
use Rattle.volume.specs.declared.turns.Transition.{Transition}
use Rattle.volume.specs.declared.turns.Transition.TheVariants as turn
use Rattle.volume.specs.Asking.{requests_of, asks_of, asks_from}
use Rattle.volume.specs.Data.{VolumeData}
use Rattle.volume.specs.Sessions.{IsOwn}
use Rattle.volume.specs.Sets.{birth_at}
use Rattle.volume.specs.Stepping.{IsVolumeStep, Turns, Retries, CallsOpen, Hears}
use Rattle.volume.specs.Turning.{Stays, StopsWith}
use Rattle.volume.specs.Writing.{sends_record, to_members, WritesRecord, AddsRecord, RefusesCall, IsUsersWrite, record_of_page, WritesPage, EndsTransaction, RaisesDurably, RaisesPoint, IsLastReached, with_reached, records_above, SameWriter, HearsPoint, HearsSegment, HearsWriting, BringsLate, brings, stores_of}
use Rattle.volume_engines.specs.Emissions.{is_refused, new_records, emitted}
use Rattle.volume_engines.proofs.Sending.{all_append}

-- ---- actions that report nothing durable
abbrev pub IsSilent : Action → Type 0
IsSilent (Durable point) = ⊥
IsSilent other = Unit {0}

abbrev pub AreSilent : List Action → Type 0
AreSilent actions = AllByRecursion IsSilent actions

asks_silent : (node : ℕ) (rs : List Request) → AreSilent (map (λ r. Ask node r) rs)
asks_silent node [] = tt
asks_silent node (r ∷ rs) = (tt, asks_silent node rs)

each_silent : (node generation : ℕ) (births : List (Option ℕ)) (er : Errand) → AreSilent (asks_from generation er node births)
each_silent node generation [] er = tt
each_silent node generation (None ∷ births) er = each_silent (node + 1) generation births er
each_silent node generation (Some birth ∷ births) er =
    all_append IsSilent (asks_of node generation birth er) (asks_from generation er (node + 1) births)
    (asks_silent node (requests_of generation birth er)) (each_silent (node + 1) generation births er)

stores_silent : (node generation birth : ℕ) (rs : List RecordData) → AreSilent (stores_of node generation birth rs)
stores_silent node generation birth [] = tt
stores_silent node generation birth (r ∷ rs) =
    all_append IsSilent (asks_of node generation birth (errand.Store r)) (stores_of node generation birth rs)
    (asks_silent node (requests_of generation birth (errand.Store r))) (stores_silent node generation birth rs)

brings_silent : (w : Writing) (node : ℕ) (b : Option ℕ) → AreSilent (brings w node b)
brings_silent w node None = (tt, tt)
brings_silent w node (Some birth) =
    all_append IsSilent
    (asks_of node w.session.generation birth (errand.Begin w.cut) ++ stores_of node w.session.generation birth w.backlog)
    (asks_of node w.session.generation birth errand.Report)
    (all_append IsSilent (asks_of node w.session.generation birth (errand.Begin w.cut)) (stores_of node w.session.generation birth w.backlog)
    (asks_silent node (requests_of w.session.generation birth (errand.Begin w.cut))) (stores_silent node w.session.generation birth w.backlog))
    (asks_silent node (requests_of w.session.generation birth errand.Report))

committed_silent : (number : ℕ) (b : Bool) → AreSilent (if b then Committed number ∷ [] else [])
committed_silent number true = (tt, tt)
committed_silent number false = tt

record_silent : (w : Writing) (r : RecordData) → AreSilent (sends_record w.session r)
record_silent w r =
    all_append IsSilent (to_members w.session (if r.page == 0 then errand.Close r else errand.Store r)) (if r.page == 0 then Committed r.number ∷ [] else [])
    (each_silent 0 w.session.generation w.session.births (if r.page == 0 then errand.Close r else errand.Store r)) (committed_silent r.number (r.page == 0))

as_listed : (actions listed : List Action) → actions ≡ listed → AreSilent listed → AreSilent actions
as_listed actions listed same are = subst AreSilent (sym same) are

-- requests are no refusal
raise_unrefused : (a : AdvanceData) (node generation : ℕ) (births : List (Option ℕ)) → is_refused (asks_from generation (errand.Raise a) node births) ≡ false
raise_unrefused a node generation [] = refl
raise_unrefused a node generation (None ∷ births) = raise_unrefused a (node + 1) generation births
raise_unrefused a node generation (Some birth ∷ births) = refl

-- ---- the ways
pub record Keeps (w x : Writing) : Type 0 where
  pub generation : x.session.generation ≡ w.session.generation
  pub cut : x.cut ≡ w.cut
  pub writer : x.writer ≡ w.writer
  pub reached : x.reached ≡ w.reached
  pub durable : x.durable ≡ w.durable
  pub backlog : x.backlog ≡ w.backlog

-- the record is of a page above page 0, or ends a mini-transaction
abbrev pub IsFormed : Writing → RecordData → Type 0
IsFormed w redo =
    ((page : ℕ) × (init : Bool) × (patches : List Patch) × IsUsersWrite page patches × (redo ≡ record_of_page w.writer page init patches))
    ⊎ ((header : List ℕ) × (redo ≡ record_of_page w.writer 0 false (commit_patch w.session.generation w.cut.epoch header ∷ [])))

-- a front was heard
pub record IsFrontHeard (nodes : ℕ) (w : Writing) (happens : Event) (node point : ℕ) : Type 0 where
  pub generation : ℕ
  pub birth : ℕ
  pub front : Front
  pub heard : happens ≡ event.Answered node (reply.Headed generation birth (segment.Front front))
  pub within : node < nodes
  pub own : IsOwn w.session node generation birth
  pub epoch : front.epoch ≡ w.cut.epoch
  pub complete : front.complete ≡ point

-- what a front that was heard changes
pub record Counts (w x : Writing) (node point : ℕ) : Type 0 where
  pub same : SameWriter w x
  pub reached : x.reached ≡ with_reached w.reached node point

abbrev pub ReportsNone : Writing → Writing → List Action → Type 0
ReportsNone w x actions = (x.durable ≡ w.durable) × (x.backlog ≡ w.backlog) × (actions ≡ [])

abbrev pub ReportsPoint : ℕ → Writing → Writing → List Action → Type 0
ReportsPoint quorum w x actions =
    (point : ℕ) × IsLastReached quorum w.backlog x.reached point × (x.durable ≡ point) × (x.backlog ≡ records_above point w.backlog)
    × (actions ≡ Durable point ∷ [])

pub data OpenStep (nodes quorum : ℕ) (w : Writing) (happens : Event) (actions : List Action) (next : Phase) : Type 0 where
  keeps : (x : Writing) → next ≡ phase.Open x → Keeps w x → AreSilent actions → emitted happens actions w x ≡ []
      → OpenStep nodes quorum w happens actions next
  writes : (x : Writing) (redo : RecordData) → next ≡ phase.Open x → WritesRecord w redo x actions → IsFormed w redo → AreSilent actions
      → emitted happens actions w x ≡ Record redo ∷ [] → OpenStep nodes quorum w happens actions next
  raises : (x : Writing) (reader point : ℕ) → next ≡ phase.Open x → RaisesDurably w reader point x actions → AreSilent actions
      → emitted happens actions w x ≡ Advance (advance_of w.writer.epoch reader point) ∷ [] → OpenStep nodes quorum w happens actions next
  hears : (x : Writing) (node point : ℕ) → next ≡ phase.Open x → IsFrontHeard nodes w happens node point → Counts w x node point
      → ReportsNone w x actions ⊎ ReportsPoint quorum w x actions → emitted happens actions w x ≡ [] → OpenStep nodes quorum w happens actions next
  ends : next ≡ phase.Idle → AreSilent actions → OpenStep nodes quorum w happens actions next

keeps_all : (w : Writing) → Keeps w w
keeps_all w = record { generation = refl; cut = refl; writer = refl; reached = refl; durable = refl; backlog = refl }

-- ---- turns
pub stayed : (old new : VolumeData) (left : Phase) (t : Transition) (actions asked : List Action) → Stays t asked → Turns old left t actions new
    → (actions ≡ asked) × (new.phase ≡ left)
stayed old new left (turn.Stay xs) actions asked stays says = (says.0 ∙ stays, ap (λ (v : VolumeData). v.phase) says.1)
stayed old new left (turn.Enter next xs) actions asked stays says = absurd stays
stayed old new left (turn.End xs) actions asked stays says = absurd stays

stopped_at : (old new : VolumeData) (left : Phase) (t : Transition) (actions : List Action) (f : Fault) → StopsWith t f → Turns old left t actions new
    → (actions ≡ Refused f ∷ []) × (new.phase ≡ phase.Idle)
stopped_at old new left (turn.Stay xs) actions f stops says = absurd stops
stopped_at old new left (turn.Enter next xs) actions f stops says = absurd stops
stopped_at old new left (turn.End xs) actions f stops says = (says.0 ∙ stops, ap (λ (v : VolumeData). v.phase) says.1)

-- ---- calls
-- what a call emits where it adds a record
pub one_more : (old new : List RecordData) (r : RecordData) → new ≡ old ++ r ∷ [] → new_records old new ≡ Record r ∷ []
one_more old new r same =
    ap (λ (rs : List RecordData). new_records old rs) same ∙ ap (λ (rs : List RecordData). map (λ (x : RecordData). Record x) rs) (drop_at old (r ∷ []) (length old) refl)

no_more : (old new : List RecordData) → new ≡ old → new_records old new ≡ []
no_more old new same =
    ap (λ (rs : List RecordData). new_records old rs) same ∙ ap (λ (rs : List RecordData). map (λ (x : RecordData). Record x) rs) (drop_all (length old) old (omega arith))

-- what a raise emits
pub raise_gives : (w x : Writing) (reader point : ℕ) (actions : List Action) → RaisesDurably w reader point x actions
    → emitted (event.Advance reader point) actions w x ≡ Advance (advance_of w.writer.epoch reader point) ∷ []
raise_gives w x reader point actions does =
    let a : AdvanceData = advance_of w.writer.epoch reader point in
    ap (λ (b : Bool). if b then [] else Advance a ∷ []) (ap is_refused does.asks ∙ raise_unrefused a 0 w.session.generation w.session.births)

module _ (nodes quorum : ℕ) (w : Writing) (actions : List Action) (new : VolumeData) where
  abbrev Step : Event → Type 0
  Step happens = OpenStep nodes quorum w happens actions new.phase

  refuses : (happens : Event) (x : Writing) (f : Fault) → new.phase ≡ phase.Open x → (x ≡ w → emitted happens actions w x ≡ []) → RefusesCall w f actions x → Step happens
  refuses happens x f at none says =
      keeps x at (subst (λ (y : Writing). Keeps w y) (sym says.1) (keeps_all w)) (as_listed actions (Refused f ∷ []) says.0 (tt, tt)) (none says.1)

  adds : (happens : Event) (x : Writing) (redo : RecordData) → new.phase ≡ phase.Open x → emitted happens actions w x ≡ new_records w.backlog x.backlog
      → IsFormed w redo → AddsRecord w redo actions x → Step happens
  adds happens x redo at gives formed says = ⊎_elim
      (λ does.
      writes x redo at does formed (as_listed actions (sends_record w.session redo) does.asks (record_silent w redo))
      (gives ∙ one_more w.backlog x.backlog redo does.backlog))
      (λ no.
      refuses happens x no.0 at (λ same. gives ∙ no_more w.backlog x.backlog (ap (λ (y : Writing). y.backlog) same)) no.2)
      says

  -- a call that adds a record, if it is not refused
  abbrev AddsTo : Event → Writing → Type 0
  AddsTo happens x = emitted happens actions w x ≡ new_records w.backlog x.backlog

  page_step : (happens : Event) (page : ℕ) (init : Bool) (patches : List Patch) (x : Writing) → new.phase ≡ phase.Open x → AddsTo happens x
      → WritesPage w page init patches actions x → Step happens
  page_step happens page init patches x at gives says = ⊎_elim
      (λ no. refuses happens x _ at (λ same. gives ∙ no_more w.backlog x.backlog (ap (λ (y : Writing). y.backlog) same)) no.1)
      (λ yes. adds happens x _ at gives (inl (page, init, patches, yes.0, refl)) yes.1)
      says

  end_step : (happens : Event) (header : List ℕ) (x : Writing) → new.phase ≡ phase.Open x → AddsTo happens x → EndsTransaction w header actions x → Step happens
  end_step happens header x at gives says = ⊎_elim
      (λ no. refuses happens x _ at (λ same. gives ∙ no_more w.backlog x.backlog (ap (λ (y : Writing). y.backlog) same)) no.1)
      (λ yes. adds happens x _ at gives (inr (header, refl)) yes.1)
      says

  raise_step : (reader point : ℕ) (x : Writing) → new.phase ≡ phase.Open x → RaisesPoint w reader point actions x → Step (event.Advance reader point)
  raise_step reader point x at says = ⊎_elim
      (λ does.
      let a : AdvanceData = advance_of w.writer.epoch reader point in
      raises x reader point at does
      (as_listed actions (to_members w.session (errand.Raise a)) does.asks (each_silent 0 w.session.generation w.session.births (errand.Raise a)))
      (raise_gives w x reader point actions does))
      (λ no.
      refuses (event.Advance reader point) x no.0 at
      (λ same. ap (λ (b : Bool). if b then [] else Advance (advance_of w.writer.epoch reader point) ∷ []) (ap is_refused no.2.0)) no.2)
      says

  -- ---- replies
  module _ (old : VolumeData) (node : ℕ) where
    unchanged : (happens : Event) (x : Writing) (t : Transition) → x ≡ w → emitted happens actions w x ≡ [] → Stays t [] → Turns old (phase.Open x) t actions new
        → Step happens
    unchanged happens x t same none stays turns =
        let goes = stayed old new (phase.Open x) t actions [] stays turns in
        keeps x goes.1 (subst (λ (y : Writing). Keeps w y) (sym same) (keeps_all w)) (as_listed actions [] goes.0 tt) none

    point_step : (generation birth : ℕ) (front : Front) (x : Writing) (t : Transition) → node < nodes → IsOwn w.session node generation birth
        → front.epoch ≡ w.cut.epoch → HearsPoint quorum w node front.complete x t → Turns old (phase.Open x) t actions new
        → Step (event.Answered node (reply.Headed generation birth (segment.Front front)))
    point_step generation birth front x t within own epoch says turns =
        let is : IsFrontHeard nodes w (event.Answered node (reply.Headed generation birth (segment.Front front))) node front.complete = record {
          generation = generation;
          birth = birth;
          front = front;
          heard = refl;
          within = within;
          own = own;
          epoch = epoch;
          complete = refl;
        } in
        ⊎_elim
        (λ none.
        let goes = stayed old new (phase.Open x) t actions [] none.5 turns in
        hears x node front.complete goes.1 is (record { same = none.1; reached = none.2 }) (inl (none.3, none.4, goes.0)) refl)
        (λ some.
        let goes = stayed old new (phase.Open x) t actions (Durable some.0 ∷ []) some.6 turns in
        hears x node front.complete goes.1 is (record { same = some.2; reached = some.3 }) (inr (some.0, some.1, some.4, some.5, goes.0)) refl)
        says

    segment_step : (generation birth : ℕ) (shown : SegmentReply) (x : Writing) (t : Transition) → node < nodes → IsOwn w.session node generation birth
        → HearsSegment quorum w node shown x t → Turns old (phase.Open x) t actions new → Step (event.Answered node (reply.Headed generation birth shown))
    segment_step generation birth (segment.Front front) x t within own says turns = ⊎_elim
        (λ other. unchanged (event.Answered node (reply.Headed generation birth (segment.Front front))) x t other.2 refl other.1 turns)
        (λ mine. point_step generation birth front x t within own mine.0 mine.1 turns)
        says
    segment_step generation birth other x t within own says turns = unchanged (event.Answered node (reply.Headed generation birth other)) x t says.1 refl says.0 turns

    late_step : (happens : Event) (generation birth : ℕ) (x : Writing) (t : Transition) → emitted happens actions w x ≡ []
        → BringsLate w node generation birth x t → Turns old (phase.Open x) t actions new → Step happens
    late_step happens generation birth x t none says turns = ⊎_elim
        (λ no. unchanged happens x t no.2 none no.1 turns)
        (λ late.
        let goes = stayed old new (phase.Open x) t actions (brings w node (Some birth)) late.2 turns in
        keeps x goes.1
        (subst (λ (y : Writing). Keeps w y) (sym late.1) (record { generation = refl; cut = refl; writer = refl; reached = refl; durable = refl; backlog = refl }))
        (as_listed actions (brings w node (Some birth)) goes.0 (brings_silent w node (Some birth))) none)
        says

    reply_step : (shown : Reply) (x : Writing) (t : Transition) → node < nodes → HearsWriting quorum w node shown x t → Turns old (phase.Open x) t actions new
        → Step (event.Answered node shown)
    reply_step (reply.Headed generation birth shown) x t within says turns = ⊎_elim
        (λ own. segment_step generation birth shown x t within own.0 own.1 turns)
        (λ no. unchanged (event.Answered node (reply.Headed generation birth shown)) x t no.2 refl no.1 turns)
        says
    reply_step (reply.Fenced generation birth accepted) x t within says turns =
        late_step (event.Answered node (reply.Fenced generation birth accepted)) generation birth x t refl says turns
    reply_step (reply.Admitted generation birth) x t within says turns =
        late_step (event.Answered node (reply.Admitted generation birth)) generation birth x t refl says turns
    reply_step (reply.Stale generation) x t within says turns = ⊎_elim
        (λ up.
        let goes = stopped_at old new (phase.Open x) t actions (Fenced generation) up.1 turns in
        ends goes.1 (as_listed actions (Refused (Fenced generation) ∷ []) goes.0 (tt, tt)))
        (λ no. unchanged (event.Answered node (reply.Stale generation)) x t no.2 refl no.1 turns)
        says
    reply_step other x t within says turns = unchanged (event.Answered node other) x t says.1 refl says.0 turns

    retry_step : (b : Option ℕ) (t : Transition) → Stays t (brings w node b) → Turns old (phase.Open w) t actions new → Step (event.Failed node)
    retry_step b t says turns =
        let goes = stayed old new (phase.Open w) t actions (brings w node b) says turns in
        keeps w goes.1 (keeps_all w) (as_listed actions (brings w node b) goes.0 (brings_silent w node b)) refl

-- ---- events
-- an event that is neither `Create` nor `Open`, or is refused
abbrev pub IsRefusedOpening : VolumeData → Event → Type 0
IsRefusedOpening old event.Create = 0 < old.generation
IsRefusedOpening old (event.Open generation) = generation ≤ old.generation
IsRefusedOpening old other = Unit {0}

-- the step of a machine that is open, and neither creates nor opens again
module _ (old new : VolumeData) (w : Writing) (actions : List Action) where
  abbrev Goes : Event → Type 0
  Goes happens = OpenStep old.settings.nodes old.settings.quorum w happens actions new.phase

  stays_open : (happens : Event) → old.phase ≡ phase.Open w → emitted happens actions w w ≡ [] → AreSilent actions → new ≡ old → Goes happens
  stays_open happens at none silent same = keeps w (ap (λ (v : VolumeData). v.phase) same ∙ at) (keeps_all w) silent none

  hears_open : (node : ℕ) (told : Reply) (p left : Phase) (t : Transition) → p ≡ phase.Open w → node < old.settings.nodes → Hears old.settings p node told left t
      → Turns old left t actions new → Goes (event.Answered node told)
  hears_open node told p (phase.Open x) t at within says turns =
      reply_step old.settings.nodes old.settings.quorum w actions new old node told x t within
      (subst (λ (q : Phase). Hears old.settings q node told (phase.Open x) t) at says) turns
  hears_open node told p phase.Idle t at within says turns = absurd (subst (λ (q : Phase). Hears old.settings q node told phase.Idle t) at says)
  hears_open node told p (phase.Creating c) t at within says turns = absurd (subst (λ (q : Phase). Hears old.settings q node told (phase.Creating c) t) at says)
  hears_open node told p (phase.Fencing f) t at within says turns = absurd (subst (λ (q : Phase). Hears old.settings q node told (phase.Fencing f) t) at says)
  hears_open node told p (phase.Opening o) t at within says turns = absurd (subst (λ (q : Phase). Hears old.settings q node told (phase.Opening o) t) at says)

  calls_open : (happens : Event) (does : Writing → List Action → Writing → Type 0) → old.phase ≡ phase.Open w
      → ((x : Writing) → new.phase ≡ phase.Open x → does w actions x → Goes happens) → CallsOpen does old old.phase actions new → Goes happens
  calls_open happens does at goes says =
      let called : CallsOpen does old (phase.Open w) actions new = subst (λ (p : Phase). CallsOpen does old p actions new) at says in
      goes called.0 (ap (λ (v : VolumeData). v.phase) called.2) called.1

  pub open_step : (happens : Event) → old.phase ≡ phase.Open w → IsRefusedOpening old happens → IsVolumeStep old happens actions new → Goes happens
  open_step event.Create at late says = ⊎_elim
      (λ no. stays_open event.Create at refl (as_listed actions _ no.1.0 (tt, tt)) no.1.1)
      (λ first. let none : old.generation ≡ 0 = first.0 in absurd (omega arith))
      says
  open_step (event.Open generation) at late says = ⊎_elim
      (λ no. stays_open (event.Open generation) at refl (as_listed actions _ no.1.0 (tt, tt)) no.1.1)
      (λ up. let more : old.generation < generation = up.0 in absurd (omega arith))
      says
  open_step (event.Write page init patches) at late says =
      calls_open (event.Write page init patches) (λ v asked after. WritesPage v page init patches.items asked after) at
      (λ x to does. page_step old.settings.nodes old.settings.quorum w actions new (event.Write page init patches) page init patches.items x to refl does) says
  open_step (event.Commit header) at late says =
      calls_open (event.Commit header) (λ v asked after. EndsTransaction v header.items asked after) at
      (λ x to does. end_step old.settings.nodes old.settings.quorum w actions new (event.Commit header) header.items x to refl does) says
  open_step (event.Advance reader point) at late says =
      calls_open (event.Advance reader point) (λ v asked after. RaisesPoint v reader point asked after) at
      (λ x to does. raise_step old.settings.nodes old.settings.quorum w actions new reader point x to does) says
  open_step (event.Answered node told) at late says = ⊎_elim
      (λ out. stays_open (event.Answered node told) at refl (as_listed actions [] out.1 tt) out.2)
      (λ inside. hears_open node told old.phase inside.1.0 inside.1.1 at inside.0 inside.1.2 inside.1.3)
      says
  open_step (event.Failed node) at late says = ⊎_elim
      (λ out. stays_open (event.Failed node) at refl (as_listed actions [] out.1 tt) out.2)
      (λ inside.
      let says_open : Retries old.settings (phase.Open w) node inside.1.0 =
      subst (λ (p : Phase). Retries old.settings p node inside.1.0) at inside.1.1 in
      retry_step old.settings.nodes old.settings.quorum w actions new old node (birth_at w.session.births node) inside.1.0 says_open
      (subst (λ (p : Phase). Turns old p inside.1.0 actions new) at inside.1.2))
      says
