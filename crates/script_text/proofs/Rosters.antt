-- A text with the line of a roster, or without, is read exactly where its lines are encoded.
use Rattle.std.proofs.Common.{◌≡◌, ℕ, ◌<◌, inl, inr, List, [], ◌∷◌, ◌++◌, length, Some, None, Result, Ok, codes, refl, sym, ap, ◌∙◌, subst, arith, rules}
use Rattle.std.specs.List.{All, AllByRecursion, AllZip}
use Rattle.std.proofs.lemmas.List.Elements.{All-from_recursion}
use Rattle.std.proofs.lemmas.Option.{none-some}
use Rattle.std.proofs.lemmas.Slice.Zip.{AllZip-long}
use Rattle.redo_core.specs.declared.facts.Fact.{Fact}
use Rattle.script_steps.specs.declared.steps.Step.{Step}
use Rattle.text.specs.Parts.{parts_at}
use Rattle.script_text.specs.FactLine.{fact_line, fact_of}
use Rattle.script_text.specs.StepLine.{IsInRange}
use Rattle.script_text.specs.Script.{ScriptData, Rostered, rostered, within, roster_in_line, lines_from, script_from, Preamble, opening_with, opening_of, below, opened}
use Rattle.script_text.specs.Laws.{ScriptsAreEncoded, LogsAreEncoded}
use Rattle.text.specs.Wording.{worded}
use Rattle.script_text.specs.Encoded.{EncodesFact, EncodesStep, EncodesRoster, IsRostered, AreFacts, AsksSteps}
use Rattle.script_text.proofs.FactEncoding.{fact_lines_are_encoded}
use Rattle.script_text.proofs.Results.{end, found, within_ok, ended}
use Rattle.script_text.proofs.Scripts.{Counts, count_is_encoded, count_is_read, facts_are_read, facts_are_encoded, steps_are_read, steps_are_encoded}
use Rattle.text.proofs.Split.{some_parts}

-- ---- the line of a roster

roster_is_encoded : (line : List ℕ) (roster : ℕ) → roster_in_line line ≡ Some roster → Counts (codes "roster") 15 line roster
unfolding roster_in_line
roster_is_encoded line roster h = count_is_encoded (codes "roster") line 15 roster (omega arith) h

roster_is_read : (line : List ℕ) (roster : ℕ) → Counts (codes "roster") 15 line roster → roster_in_line line ≡ Some roster
unfolding roster_in_line
roster_is_read line roster h = count_is_read (codes "roster") line 15 roster (omega arith) refl refl h

roster_line_is_no_fact : (line : List ℕ) (roster : ℕ) (f : Fact) → Counts (codes "roster") 15 line roster → fact_of line ≡ Some f → ⊥
unfolding fact_line
roster_line_is_no_fact line roster f c h = none-some f (sym (ap fact_of c.0) ∙ h)

fact_is_no_roster : (line : List ℕ) (f : Fact) → EncodesFact line f → roster_in_line line ≡ None
fact_is_no_roster line f s =
    elim (found (roster_in_line line)) [
      | inl none ↦ none
      | inr some ↦ absurd (roster_line_is_no_fact line some.0 f (roster_is_encoded line some.0 some.1) ((fact_lines_are_encoded line f).1 s))
    ]

-- nor is the line go, or no line at all
go_is_no_roster : roster_in_line (codes "go") ≡ None
unfolding roster_in_line
go_is_no_roster = refl

nothing_is_no_roster : roster_in_line [] ≡ None
unfolding roster_in_line
nothing_is_no_roster = refl

-- ---- readers of the lines below a roster

-- A reader that reads just the lines with Is, whatever number the first has, and no line of a roster among them in front.
pub record Reader {A : Type 0} (Is : List (List ℕ) → A → Type 0) (read : ℕ → List (List ℕ) → Result A ℕ) : Type 0 where
  pub encoded : (at : ℕ) (parts : List (List ℕ)) (x : A) → 0 < length parts → read at parts ≡ Ok x → (lines : List (List ℕ)) × (parts ≡ lines ++ end)
      × Is lines x
  pub is_read : (at : ℕ) (lines : List (List ℕ)) (x : A) → Is lines x → read at (lines ++ end) ≡ Ok x
  pub quiet : (line : List ℕ) (lines : List (List ℕ)) (x : A) → Is (line ∷ lines) x → roster_in_line line ≡ None

facts_quiet : (line : List ℕ) (lines : List (List ℕ)) (facts : List Fact) → AreFacts (line ∷ lines) facts → roster_in_line line ≡ None
facts_quiet line lines facts h = search (rules, fact_is_no_roster)

first_same : (x y : List ℕ) (xs ys : List (List ℕ)) → x ∷ xs ≡ y ∷ ys → x ≡ y
first_same x y xs ys h = cc

steps_quiet_at : (line : List ℕ) (lines facts others : List (List ℕ)) (fs : List Fact) → line ∷ lines ≡ facts ++ (codes "go" ∷ others)
    → AllZip EncodesFact facts fs → roster_in_line line ≡ None
steps_quiet_at line lines [] others fs e h = ap roster_in_line (first_same line (codes "go") lines others e) ∙ go_is_no_roster
steps_quiet_at line lines (x ∷ xs) others [] e h = absurd h
steps_quiet_at line lines (x ∷ xs) others (f ∷ fs) e h = ap roster_in_line (first_same line x lines (xs ++ (codes "go" ∷ others)) e) ∙ fact_is_no_roster x f h.0

steps_quiet : (line : List ℕ) (lines : List (List ℕ)) (s : ScriptData) → AsksSteps (line ∷ lines) s → roster_in_line line ≡ None
steps_quiet line lines s i = steps_quiet_at line lines i.facts (worded (codes "nodes") (s.nodes ∷ []) ∷ i.steps) s.facts i.all i.said

pub facts_reader : Reader AreFacts (lines_from fact_of 0)
facts_reader = record { encoded = facts_are_encoded; is_read = facts_are_read; quiet = facts_quiet }

pub steps_reader : Reader AsksSteps (script_from 0)
steps_reader = record { encoded = steps_are_encoded; is_read = steps_are_read; quiet = steps_quiet }

-- what a reader reads begins with no line of a roster
begins_quiet_at : {A : Type 0} (Is : List (List ℕ) → A → Type 0) (line : List ℕ) (rest lines : List (List ℕ)) (x : A)
    → ((l : List ℕ) (ls : List (List ℕ)) (y : A) → Is (l ∷ ls) y → roster_in_line l ≡ None)
    → line ∷ rest ≡ lines ++ end → Is lines x → roster_in_line line ≡ None
begins_quiet_at Is line rest [] x quiet e h = ap roster_in_line (first_same line [] rest [] e) ∙ nothing_is_no_roster
begins_quiet_at Is line rest (l ∷ ls) x quiet e h = ap roster_in_line (first_same line l rest (ls ++ end) e) ∙ quiet l ls x h

pub begins_quiet : {A : Type 0} (Is : List (List ℕ) → A → Type 0) (read : ℕ → List (List ℕ) → Result A ℕ) → Reader Is read
    → (at : ℕ) (line : List ℕ) (rest : List (List ℕ)) (x : A)
    → read at (line ∷ rest) ≡ Ok x → roster_in_line line ≡ None
begins_quiet Is read r at line rest x h =
    let s = r.encoded at (line ∷ rest) x (omega arith) h in
    begins_quiet_at Is line rest s.0 x r.quiet s.1 s.2

-- ---- how a text opens

pub opening_plain : (line : List ℕ) (rest : List (List ℕ)) → roster_in_line line ≡ None → opening_of (line ∷ rest) ≡ opening_with 1 0
unfolding opening_of
opening_plain line rest e = search rules

pub opening_named : (line : List ℕ) (rest : List (List ℕ)) (roster : ℕ) → 0 < length rest → roster_in_line line ≡ Some roster
    → opening_of (line ∷ rest) ≡ opening_with roster 1
unfolding opening_of
opening_named line rest roster some e = search rules

opening_last : (last : List ℕ) → opening_of (last ∷ []) ≡ opening_with 1 0
unfolding opening_of
opening_last last = refl

pub opened_plain : {A : Type 0} (read : ℕ → List (List ℕ) → Result A ℕ) (line : List ℕ) (rest : List (List ℕ)) → roster_in_line line ≡ None
    → opened read (line ∷ rest) ≡ within (rostered 1) (read 1 (line ∷ rest))
opened_plain read line rest e = ap (λ (o : Preamble). below read o (line ∷ rest)) (opening_plain line rest e)

pub opened_named : {A : Type 0} (read : ℕ → List (List ℕ) → Result A ℕ) (line : List ℕ) (rest : List (List ℕ)) (roster : ℕ) → 0 < length rest
    → roster_in_line line ≡ Some roster
    → opened read (line ∷ rest) ≡ within (rostered roster) (read 2 rest)
opened_named read line rest roster some e = ap (λ (o : Preamble). below read o (line ∷ rest)) (opening_named line rest roster some e)

pub opened_last : {A : Type 0} (read : ℕ → List (List ℕ) → Result A ℕ) (last : List ℕ) → opened read (last ∷ []) ≡ within (rostered 1) (read 1 (last ∷ []))
opened_last read last = ap (λ (o : Preamble). below read o (last ∷ [])) (opening_last last)

-- what a reader reads is read with no line of a roster
pub opened_read : {A : Type 0} (Is : List (List ℕ) → A → Type 0) (read : ℕ → List (List ℕ) → Result A ℕ) → Reader Is read → (parts : List (List ℕ)) (x : A)
    → 0 < length parts → read 1 parts ≡ Ok x → opened read parts ≡ Ok (rostered 1 x)
opened_read Is read r [] x some h = absurd (omega arith)
opened_read Is read r (line ∷ rest) x some h = opened_plain read line rest (begins_quiet Is read r 1 line rest x h) ∙ ap (within (rostered 1)) h

-- ---- what is read is encoded

plain_encoded : {A : Type 0} (Is : List (List ℕ) → A → Type 0) (read : ℕ → List (List ℕ) → Result A ℕ) → Reader Is read
    → (parts : List (List ℕ)) (y : Rostered A) → 0 < length parts → within (rostered 1) (read 1 parts) ≡ Ok y
    → (lines : List (List ℕ)) × (parts ≡ lines ++ end) × IsRostered Is lines y
plain_encoded Is read r parts y some h =
    let o = within_ok (rostered 1) (read 1 parts) y h in
    let s = r.encoded 1 parts o.0 some o.1 in
    let is : IsRostered Is s.0 (rostered 1 o.0) = record { first = []; others = s.0; all = refl; named = inl (refl, refl); said = s.2 } in
    (s.0, s.1, subst (IsRostered Is s.0) (sym o.2) is)

named_encoded : {A : Type 0} (Is : List (List ℕ) → A → Type 0) (read : ℕ → List (List ℕ) → Result A ℕ) → Reader Is read → (line : List ℕ) (rest : List (List ℕ))
    (roster : ℕ) (y : Rostered A) → 0 < length rest
    → roster_in_line line ≡ Some roster → within (rostered roster) (read 2 rest) ≡ Ok y → (lines : List (List ℕ)) × (line ∷ rest ≡ lines ++ end)
    × IsRostered Is lines y
named_encoded Is read r line rest roster y some e h =
    let o = within_ok (rostered roster) (read 2 rest) y h in
    let s = r.encoded 2 rest o.0 some o.1 in
    let c = roster_is_encoded line roster e in
    let named : EncodesRoster (line ∷ []) roster = inr (ap (λ (t : List ℕ). t ∷ []) c.0, (c.1, c.2)) in
    let is : IsRostered Is (line ∷ s.0) (rostered roster o.0) = record { first = line ∷ []; others = s.0; all = refl; named = named; said = s.2 } in
    (line ∷ s.0, ap (λ (t : List (List ℕ)). line ∷ t) s.1, subst (IsRostered Is (line ∷ s.0)) (sym o.2) is)

pub rostered_is_encoded : {A : Type 0} (Is : List (List ℕ) → A → Type 0) (read : ℕ → List (List ℕ) → Result A ℕ) → Reader Is read
    → (parts : List (List ℕ)) (y : Rostered A) → 0 < length parts → opened read parts ≡ Ok y
    → (lines : List (List ℕ)) × (parts ≡ lines ++ end) × IsRostered Is lines y
rostered_is_encoded Is read r [] y some h = absurd (omega arith)
rostered_is_encoded Is read r (last ∷ []) y some h = plain_encoded Is read r (last ∷ []) y some (sym (opened_last read last) ∙ h)
rostered_is_encoded Is read r (line ∷ next ∷ rest) y some h =
    elim (found (roster_in_line line)) [
      | inl none ↦ plain_encoded Is read r (line ∷ next ∷ rest) y some (sym (opened_plain read line (next ∷ rest) none) ∙ h)
      | inr one ↦ named_encoded Is read r line (next ∷ rest) one.0 y (omega arith) one.1
          (sym (opened_named read line (next ∷ rest) one.0 (omega arith) one.1) ∙ h)
    ]

-- ---- what is encoded is read

rostered_read_at : {A : Type 0} (Is : List (List ℕ) → A → Type 0) (read : ℕ → List (List ℕ) → Result A ℕ) → Reader Is read
    → (first others : List (List ℕ)) (roster : ℕ) (x : A) → EncodesRoster first roster → Is others x
    → opened read ((first ++ others) ++ end) ≡ Ok (rostered roster x)
rostered_read_at {A} Is read r first others roster x (inl none) h =
    let said = opened_read Is read r (others ++ end) x (ended others) (r.is_read 1 others x h) in
    let parts : (first ++ others) ++ end ≡ others ++ end = ap (λ (t : List (List ℕ)). (t ++ others) ++ end) none.0 in
    let result : Ok (rostered 1 x) ≡ Ok (rostered roster x) = ap (λ (n : ℕ). Ok (rostered n x)) (sym none.1) in
    ap (opened read) parts ∙ said ∙ result
rostered_read_at Is read r first others roster x (inr one) h =
    let line : List ℕ = worded (codes "roster") (roster ∷ []) in
    let parts : (first ++ others) ++ end ≡ line ∷ (others ++ end) = ap (λ (t : List (List ℕ)). (t ++ others) ++ end) one.0 in
    let named = roster_is_read line roster (refl, (one.1).0, (one.1).1) in
    ap (opened read) parts ∙ opened_named read line (others ++ end) roster (ended others) named ∙ ap (within (rostered roster)) (r.is_read 2 others x h)

pub rostered_is_read : {A : Type 0} (Is : List (List ℕ) → A → Type 0) (read : ℕ → List (List ℕ) → Result A ℕ) → Reader Is read
    → (lines : List (List ℕ)) (y : Rostered A) → IsRostered Is lines y → opened read (lines ++ end) ≡ Ok y
rostered_is_read Is read r lines y i = ap (λ (t : List (List ℕ)). opened read (t ++ end)) i.all
    ∙ rostered_read_at Is read r i.first i.others y.roster y.said i.named i.said

-- ---- texts

pub scripts_are_encoded : ScriptsAreEncoded
scripts_are_encoded text s = (
  rostered_is_encoded AsksSteps (script_from 0) steps_reader (parts_at 10 text) s (some_parts 10 text),
  λ h. ap (opened (script_from 0)) h.1 ∙ rostered_is_read AsksSteps (script_from 0) steps_reader h.0 s h.2,
)

pub logs_are_encoded : LogsAreEncoded
logs_are_encoded text log = (
  rostered_is_encoded AreFacts (lines_from fact_of 0) facts_reader (parts_at 10 text) log (some_parts 10 text),
  λ h. ap (opened (lines_from fact_of 0)) h.1 ∙ rostered_is_read AreFacts (lines_from fact_of 0) facts_reader h.0 log h.2,
)

-- ---- what a script's steps name

step_in_range : (facts : ℕ) (line : List ℕ) (s : Step ℕ) → EncodesStep facts line s → IsInRange facts s
step_in_range facts line s h = search rules

all_in_range : (facts : ℕ) (lines : List (List ℕ)) (steps : List (Step ℕ)) → AllZip (EncodesStep facts) lines steps → AllByRecursion (IsInRange facts) steps
all_in_range facts [] [] h = tt
all_in_range facts [] (s ∷ ss) h = absurd h
all_in_range facts (l ∷ ls) [] h = absurd h
all_in_range facts (l ∷ ls) (s ∷ ss) h = (step_in_range facts l s h.0, all_in_range facts ls ss h.1)

-- the steps of a script that was read are in range
pub asked_in_range : (at : ℕ) (parts : List (List ℕ)) (s : ScriptData) → script_from 0 at parts ≡ Ok s → All (IsInRange (length s.facts)) s.steps
asked_in_range at [] s h = absurd cc
asked_in_range at (line ∷ rest) s h =
    let i : AsksSteps (steps_are_encoded at (line ∷ rest) s (omega arith) h).0 s = (steps_are_encoded at (line ∷ rest) s (omega arith) h).2 in
    let as_many : length i.facts ≡ length s.facts = sym (AllZip-long EncodesFact i.facts s.facts i.said) in
    subst (λ (n : ℕ). All (IsInRange n) s.steps) as_many
    (All-from_recursion (IsInRange (length i.facts)) s.steps (all_in_range (length i.facts) i.steps s.steps i.asked))
