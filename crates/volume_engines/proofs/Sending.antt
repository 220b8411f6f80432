-- What an engine may have sent.
use Rattle.std.proofs.Common.{◌≡◌, ℕ, zero, suc, ◌+◌, ◌≤◌, List, [], ◌∷◌, ◌++◌, map, Option, Some, None, refl, arith}
use Rattle.std.specs.List.{AllByRecursion}
use Rattle.redo_core.specs.Data.{CutData}
use Rattle.redo_core.specs.declared.facts.Fact.{Fact}
use Rattle.redo_core.specs.declared.facts.Fact.TheVariants.{Record, Cut, Advance}
use Rattle.messages.specs.Summaries.{SummaryData}
use Rattle.messages.specs.Deltas.{DeltaData}
use Rattle.replica.specs.declared.requests.Request.{Request as SegmentRequest}
use Rattle.replica.specs.declared.requests.Request.TheVariants as segment
use Rattle.replica.specs.Meaning.{BringsDelta}
use Rattle.guard.specs.declared.requests.Request.{Request}
use Rattle.guard.specs.declared.requests.Request.TheVariants as request
use Rattle.volume.specs.declared.actions.Action.{Action}
use Rattle.volume.specs.declared.actions.Action.TheVariants.{Ask, Opened}
use Rattle.volume.specs.declared.errands.Errand.{Errand}
use Rattle.volume.specs.declared.errands.Errand.TheVariants as errand
use Rattle.volume.specs.declared.errands.Joining.{Joining}
use Rattle.volume.specs.declared.errands.Query.{Query}
use Rattle.volume.specs.declared.errands.Query.TheVariants as query
use Rattle.volume.specs.Asking.{requests_of, asks_of, asks_from, asks_at, request_of_query, queries_from, query_to}
use Rattle.volume.specs.Sets.{birth_at}
use Rattle.volume_theorems.specs.Runs.{VolumeRun}
use Rattle.volume_theorems.specs.Opening.{HasAsked, IsCutSent}
use Rattle.volume_theorems.specs.ByMoment.{HasOpenedBy}
use Rattle.volume_theorems.specs.Proposing.{MayPropose}
use Rattle.volume_logs.specs.Histories.{History, log_at}
use Rattle.volume_engines.proofs.Admissions.{IsAdmission, joining_as}

-- ---- what holds of each request that engine e sends at the moment t
abbrev pub IsOwnProposal : VolumeRun → ℕ → ℕ → CutData → Type 0
IsOwnProposal run e t cut = ((run.engines e).cuts cut.epoch ≡ cut) × MayPropose run e cut.epoch t

-- a truncation that nodes are to take has been accepted by a quorum, and F holds of another fact
abbrev pub IsFactRight : VolumeRun → (Fact → Type 0) → ℕ → Fact → Type 0
IsFactRight run F t (Cut cut) = IsCutSent run t cut
IsFactRight run F t fact = F fact

-- the delta has what some facts of the log have beyond the summary
abbrev pub IsDeltaOf : History → ℕ → SummaryData → DeltaData → Type 0
IsDeltaOf h t summary delta = (facts : List Fact) × BringsDelta h.readers (log_at h t) summary delta facts

-- what a node has beyond a summary is asked with one of these summaries, once a quorum is gathered; a front, once all
-- of it have answered that; and nothing else is asked but to take facts
abbrev pub RightUnder : VolumeRun → History → ℕ → (SummaryData → Type 0) → (Fact → Type 0) → ℕ → SegmentRequest → Type 0
RightUnder run h e Q F t (segment.Answer summary) = Q summary × ((run.engines e).gathered ≤ t)
RightUnder run h e Q F t segment.Front = HasAsked run e t
RightUnder run h e Q F t (segment.Take fact) = IsFactRight run F t fact
RightUnder run h e Q F t segment.Ask = Unit {0}
RightUnder run h e Q F t (segment.Absorb summary delta) = IsDeltaOf h t summary delta
RightUnder run h e Q F t asked = ⊥

-- the same, whatever it brings
abbrev pub MayAsk : VolumeRun → ℕ → (SummaryData → Type 0) → ℕ → SegmentRequest → Type 0
MayAsk run e Q t (segment.Answer summary) = Q summary × ((run.engines e).gathered ≤ t)
MayAsk run e Q t segment.Front = HasAsked run e t
MayAsk run e Q t (segment.Take fact) = Unit {0}
MayAsk run e Q t segment.Ask = Unit {0}
MayAsk run e Q t (segment.Absorb summary delta) = Unit {0}
MayAsk run e Q t asked = ⊥

pub may_ask : (run : VolumeRun) (h : History) (e : ℕ) (Q : SummaryData → Type 0) (F : Fact → Type 0) (t : ℕ) (asked : SegmentRequest)
    → RightUnder run h e Q F t asked → MayAsk run e Q t asked
may_ask run h e Q F t (segment.Answer summary) is = is
may_ask run h e Q F t segment.Front is = is
may_ask run h e Q F t (segment.Take fact) is = tt
may_ask run h e Q F t segment.Ask is = tt
may_ask run h e Q F t (segment.Absorb summary delta) is = tt
may_ask run h e Q F t asked is = absurd is

-- a fresh node is asked plainly to absorb a delta, and nothing else
abbrev pub RightPlainly : History → ℕ → SegmentRequest → Type 0
RightPlainly h t (segment.Absorb summary delta) = IsDeltaOf h t summary delta
RightPlainly h t asked = ⊥

abbrev pub IsOwnGeneration : VolumeRun → ℕ → ℕ → Type 0
IsOwnGeneration run e generation = (run.engines e).generation ≡ generation

abbrev pub Right : VolumeRun → History → ℕ → (SummaryData → Type 0) → (Fact → Type 0) → ℕ → ℕ → Request → Type 0
Right run h e Q F t node (request.As generation birth asked) = RightUnder run h e Q F t asked
Right run h e Q F t node (request.Fence generation) = IsOwnGeneration run e generation
Right run h e Q F t node (request.Propose generation birth cut) = IsOwnGeneration run e generation × IsOwnProposal run e t cut
Right run h e Q F t node (request.Admit asked) = IsAdmission run h e t node asked
Right run h e Q F t node (request.Plain asked) = RightPlainly h t asked
Right run h e Q F t node asked = Unit {0}

-- the engine has opened the epoch of its own truncation, at the point that this keeps
abbrev pub HasOpenedAt : VolumeRun → ℕ → ℕ → ℕ → ℕ → Type 0
HasOpenedAt run e t epoch point = HasOpenedBy run t e epoch × (point ≡ ((run.engines e).cuts epoch).lo)

abbrev pub RightAction : VolumeRun → History → ℕ → (SummaryData → Type 0) → (Fact → Type 0) → ℕ → Action → Type 0
RightAction run h e Q F t (Ask node asked) = Right run h e Q F t node asked
RightAction run h e Q F t (Opened epoch point header) = HasOpenedAt run e t epoch point
RightAction run h e Q F t other = Unit {0}

abbrev pub AllRight : VolumeRun → History → ℕ → (SummaryData → Type 0) → (Fact → Type 0) → ℕ → List Action → Type 0
AllRight run h e Q F t actions = AllByRecursion (RightAction run h e Q F t) actions

abbrev pub RightErrand : VolumeRun → History → ℕ → (SummaryData → Type 0) → (Fact → Type 0) → ℕ → Errand → Type 0
RightErrand run h e Q F t (errand.Pull summary) = Q summary × ((run.engines e).gathered ≤ t)
RightErrand run h e Q F t (errand.Push summary delta) = HasAsked run e t × IsDeltaOf h t summary delta
RightErrand run h e Q F t (errand.Propose cut) = IsOwnProposal run e t cut
RightErrand run h e Q F t (errand.Begin cut) = HasAsked run e t × IsCutSent run t cut
RightErrand run h e Q F t (errand.Store redo) = F (Record redo)
RightErrand run h e Q F t (errand.Close redo) = F (Record redo) × HasAsked run e t
RightErrand run h e Q F t (errand.Raise advance) = F (Advance advance)
RightErrand run h e Q F t errand.Report = HasAsked run e t
RightErrand run h e Q F t errand.Found = ⊥
RightErrand run h e Q F t (errand.Join summary delta joining) = ⊥
RightErrand run h e Q F t other = Unit {0}

-- ---- other summaries
under_wider : (run : VolumeRun) (h : History) (e : ℕ) (Q R : SummaryData → Type 0) (F : Fact → Type 0) (t : ℕ) → ((s : SummaryData) → Q s → R s)
    → (asked : SegmentRequest) → RightUnder run h e Q F t asked → RightUnder run h e R F t asked
under_wider run h e Q R F t wider (segment.Answer summary) is = (wider summary is.0, is.1)
under_wider run h e Q R F t wider segment.Front is = is
under_wider run h e Q R F t wider (segment.Take fact) is = is
under_wider run h e Q R F t wider segment.Ask is = is
under_wider run h e Q R F t wider (segment.Absorb summary delta) is = is
under_wider run h e Q R F t wider asked is = absurd is

right_wider : (run : VolumeRun) (h : History) (e : ℕ) (Q R : SummaryData → Type 0) (F : Fact → Type 0) (t : ℕ) → ((s : SummaryData) → Q s → R s) → (node : ℕ) (asked : Request)
    → Right run h e Q F t node asked → Right run h e R F t node asked
right_wider run h e Q R F t wider node (request.As generation birth asked) is = under_wider run h e Q R F t wider asked is
right_wider run h e Q R F t wider node (request.Fence generation) is = is
right_wider run h e Q R F t wider node (request.Propose generation birth cut) is = is
right_wider run h e Q R F t wider node (request.Admit asked) is = is
right_wider run h e Q R F t wider node (request.Plain asked) is = is
right_wider run h e Q R F t wider node asked is = tt

action_wider : (run : VolumeRun) (h : History) (e : ℕ) (Q R : SummaryData → Type 0) (F : Fact → Type 0) (t : ℕ) → ((s : SummaryData) → Q s → R s) → (a : Action)
    → RightAction run h e Q F t a → RightAction run h e R F t a
action_wider run h e Q R F t wider (Ask node asked) is = right_wider run h e Q R F t wider node asked is
action_wider run h e Q R F t wider (Opened epoch point header) is = is
action_wider run h e Q R F t wider other is = tt

pub all_wider : (run : VolumeRun) (h : History) (e : ℕ) (Q R : SummaryData → Type 0) (F : Fact → Type 0) (t : ℕ) → ((s : SummaryData) → Q s → R s) → (actions : List Action)
    → AllRight run h e Q F t actions → AllRight run h e R F t actions
all_wider run h e Q R F t wider [] all = tt
all_wider run h e Q R F t wider (a ∷ actions) all = (action_wider run h e Q R F t wider a all.0, all_wider run h e Q R F t wider actions all.1)

-- ---- lists of requests
pub all_append : {X : Type 0} (P : X → Type 0) (xs ys : List X) → AllByRecursion P xs → AllByRecursion P ys → AllByRecursion P (xs ++ ys)
all_append P [] ys one two = two
all_append P (x ∷ xs) ys one two = (one.0, all_append P xs ys one.1 two)

requests_right : (run : VolumeRun) (h : History) (e : ℕ) (Q : SummaryData → Type 0) (F : Fact → Type 0) (t node generation birth : ℕ) (same : IsOwnGeneration run e generation) (er : Errand) → RightErrand run h e Q F t er
    → AllByRecursion (Right run h e Q F t node) (requests_of generation birth er)
requests_right run h e Q F t node generation birth same (errand.Pull summary) is = (is, tt)
requests_right run h e Q F t node generation birth same errand.Ask is = (tt, tt)
requests_right run h e Q F t node generation birth same (errand.Push summary delta) is = (is.1, (is.0, tt))
requests_right run h e Q F t node generation birth same (errand.Propose cut) is = ((same, is), tt)
requests_right run h e Q F t node generation birth same (errand.Begin cut) is = (is.1, (is.0, tt))
requests_right run h e Q F t node generation birth same (errand.Store redo) is = (is, tt)
requests_right run h e Q F t node generation birth same (errand.Close redo) is = (is.0, (is.1, tt))
requests_right run h e Q F t node generation birth same (errand.Raise advance) is = (is, tt)
requests_right run h e Q F t node generation birth same errand.Report is = (is, tt)
requests_right run h e Q F t node generation birth same errand.Found is = absurd is
requests_right run h e Q F t node generation birth same (errand.Join summary delta joining) is = absurd is

sent_to : (run : VolumeRun) (h : History) (e : ℕ) (Q : SummaryData → Type 0) (F : Fact → Type 0) (t node : ℕ) (rs : List Request) → AllByRecursion (Right run h e Q F t node) rs
    → AllRight run h e Q F t (map (λ r. Ask node r) rs)
sent_to run h e Q F t node [] all = tt
sent_to run h e Q F t node (r ∷ rs) all = (all.0, sent_to run h e Q F t node rs all.1)

pub to_node : (run : VolumeRun) (h : History) (e : ℕ) (Q : SummaryData → Type 0) (F : Fact → Type 0) (t node generation birth : ℕ) (same : IsOwnGeneration run e generation) (er : Errand)
    → RightErrand run h e Q F t er → AllRight run h e Q F t (asks_of node generation birth er)
to_node run h e Q F t node generation birth same er is =
    sent_to run h e Q F t node (requests_of generation birth er) (requests_right run h e Q F t node generation birth same er is)

pub to_each : (run : VolumeRun) (h : History) (e : ℕ) (Q : SummaryData → Type 0) (F : Fact → Type 0) (t node generation : ℕ) (same : IsOwnGeneration run e generation) (births : List (Option ℕ)) (er : Errand)
    → RightErrand run h e Q F t er → AllRight run h e Q F t (asks_from generation er node births)
to_each run h e Q F t node generation same [] er is = tt
to_each run h e Q F t node generation same (None ∷ births) er is = to_each run h e Q F t (node + 1) generation same births er is
to_each run h e Q F t node generation same (Some birth ∷ births) er is =
    all_append (RightAction run h e Q F t) (asks_of node generation birth er) (asks_from generation er (node + 1) births)
    (to_node run h e Q F t node generation birth same er is) (to_each run h e Q F t (node + 1) generation same births er is)

pub to_one : (run : VolumeRun) (h : History) (e : ℕ) (Q : SummaryData → Type 0) (F : Fact → Type 0) (t node generation : ℕ) (same : IsOwnGeneration run e generation) (birth : Option ℕ) (er : Errand)
    → RightErrand run h e Q F t er → AllRight run h e Q F t (asks_at generation er node birth)
to_one run h e Q F t node generation same None er is = tt
to_one run h e Q F t node generation same (Some birth) er is = to_node run h e Q F t node generation birth same er is

-- ---- admissions
-- each node of the table is asked to become a member
pub joins_each : (run : VolumeRun) (h : History) (e : ℕ) (Q : SummaryData → Type 0) (F : Fact → Type 0) (t node generation : ℕ) (births : List (Option ℕ)) (summary : SummaryData)
    (delta : DeltaData) (joining : Joining) → IsDeltaOf h t summary delta
    → ((i at b : ℕ) → at ≡ node + i → birth_at births i ≡ Some b → IsAdmission run h e t at (joining_as generation b joining))
    → AllRight run h e Q F t (asks_from generation (errand.Join summary delta joining) node births)
joins_each run h e Q F t node generation [] summary delta joining of each = tt
joins_each run h e Q F t node generation (None ∷ births) summary delta joining of each =
    joins_each run h e Q F t (node + 1) generation births summary delta joining of
    (λ i at b is has. each (suc i) at b (omega (arith, is)) has)
joins_each run h e Q F t node generation (Some birth ∷ births) summary delta joining of each =
    all_append (RightAction run h e Q F t) (asks_of node generation birth (errand.Join summary delta joining))
    (asks_from generation (errand.Join summary delta joining) (node + 1) births) (of, (each 0 node birth (omega arith) refl, tt))
    (joins_each run h e Q F t (node + 1) generation births summary delta joining of
    (λ i at b is has. each (suc i) at b (omega (arith, is)) has))

-- ---- queries
-- the machine fences under its own generation
abbrev pub RightQuery : VolumeRun → ℕ → Query → Type 0
RightQuery run e query.Status = Unit {0}
RightQuery run e (query.Fence generation) = IsOwnGeneration run e generation

query_right : (run : VolumeRun) (h : History) (e : ℕ) (Q : SummaryData → Type 0) (F : Fact → Type 0) (t node : ℕ) (q : Query) → RightQuery run e q → Right run h e Q F t node (request_of_query q)
query_right run h e Q F t node query.Status is = tt
query_right run h e Q F t node (query.Fence generation) is = is

pub query_one : (run : VolumeRun) (h : History) (e : ℕ) (Q : SummaryData → Type 0) (F : Fact → Type 0) (t node : ℕ) (q : Query) → RightQuery run e q → AllRight run h e Q F t (query_to q node)
query_one run h e Q F t node q is = (query_right run h e Q F t node q is, tt)

pub queries_each : (run : VolumeRun) (h : History) (e : ℕ) (Q : SummaryData → Type 0) (F : Fact → Type 0) (t node count : ℕ) (q : Query) → RightQuery run e q → AllRight run h e Q F t (queries_from q node count)
queries_each run h e Q F t node zero q is = tt
queries_each run h e Q F t node (suc count) q is = (query_right run h e Q F t node q is, queries_each run h e Q F t (node + 1) count q is)
