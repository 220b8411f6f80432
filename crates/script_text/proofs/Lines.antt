-- What a loop over the lines of a text keeps.
use Rattle.std.proofs.Common.{◌≡◌, ℕ, ◌+◌, ◌<◌, ◌≤◌, Bool, true, false, cond, leb, List, [], ◌∷◌, ◌++◌, length, Option, Some, None, Result, Ok, Err, codes, refl, ap, ◌∙◌, arith, rules}
use Rattle.std.proofs.lemmas.Grind.{common_steps}
use Rattle.std.specs.Prelude.{bytes_eq}
use Rattle.redo_core.specs.declared.facts.Fact.{Fact}
use Rattle.script_steps.specs.declared.steps.Step.{Step}
use Rattle.text.specs.Parts.{parts_at}
use Rattle.script_text.specs.FactLine.{fact_of}
use Rattle.script_text.specs.StepLine.{step_of}
use Rattle.script_text.specs.Script.{most, nodes_in_line, roster_in_line, lines_from, nodes_from, script_from, opening_with, opening_by, opening_of, with_facts, within}
use Rattle.script_text.proofs.Results.{bad, some_left}
use Rattle.script_text.proofs.Scripts.{script_next}
use Rattle.text.proofs.Split.{some_parts}

pub bad_either : {A : Type 0} (b : Bool) (at : ℕ) → cond b (Err at) (Err at) ≡ bad {A = A} at
bad_either b at = search rules

-- ---- lines that are read one by one

-- the values so far, and then the others
abbrev pub with_said : {A : Type 0} → List A → Result (List A) ℕ → Result (List A) ℕ
with_said front rest = within (λ xs. front ++ xs) rest

one_more : {A : Type 0} (front : List A) (x : A) (r : Result (List A) ℕ) → with_said front (within (λ xs. x ∷ xs) r) ≡ with_said (front ++ x ∷ []) r
one_more front x r = grind (arith, common_steps)

said_next : {A : Type 0} (said : List ℕ → Option A) (count at : ℕ) (front : List A) (text line behind : List ℕ) (x : A)
    → parts_at 10 text ≡ line ∷ parts_at 10 behind → count < most → said line ≡ Some x
    → with_said front (lines_from said count at (parts_at 10 text)) ≡ with_said (front ++ x ∷ []) (lines_from said (count + 1) (at + 1) (parts_at 10 behind))
said_next said count at front text line behind x e few is = search (rules, some_parts, one_more)

pub said_onto : {A : Type 0} (said : List ℕ → Option A) (at : ℕ) (front more : List A) (text line behind : List ℕ) (x : A)
    → parts_at 10 text ≡ line ∷ parts_at 10 behind → length front < most → said line ≡ Some x → more ≡ front ++ x ∷ []
    → with_said more (lines_from said (length more) (at + length more) (parts_at 10 behind)) ≡ with_said front
    (lines_from said (length front) (at + length front) (parts_at 10 text))
said_onto said at front more text line behind x e few is is_more = grind (arith, common_steps, said_next)

-- a line that says nothing
pub said_bad : {A : Type 0} (said : List ℕ → Option A) (count at : ℕ) (text line behind : List ℕ) → parts_at 10 text ≡ line ∷ parts_at 10 behind
    → said line ≡ None → lines_from said count at (parts_at 10 text) ≡ Err at
said_bad said count at text line behind e is = rw (e, some_left (length (parts_at 10 behind)) (some_parts 10 behind), is) (bad_either (leb most count) at)

-- a line more than may come
pub said_past : {A : Type 0} (said : List ℕ → Option A) (count at : ℕ) (text line behind : List ℕ) → parts_at 10 text ≡ line ∷ parts_at 10 behind
    → most ≤ count → lines_from said count at (parts_at 10 text) ≡ Err at
said_past said count at text line behind e le = search (rules, some_parts)

-- ---- scripts

pub fact_next : (at : ℕ) (facts more : List Fact) (text line behind : List ℕ) (f : Fact) → parts_at 10 text ≡ line ∷ parts_at 10 behind
    → length facts < most → fact_of line ≡ Some f → more ≡ facts ++ f ∷ []
    → within (with_facts more) (script_from (length more) (at + length more) (parts_at 10 behind)) ≡ within (with_facts facts)
    (script_from (length facts) (at + length facts) (parts_at 10 text))
fact_next at facts more text line behind f e few is is_more = grind (arith, common_steps, script_next, some_parts)

pub go_next : (count at : ℕ) (text line behind : List ℕ) → parts_at 10 text ≡ line ∷ parts_at 10 behind → bytes_eq line (codes "go") ≡ true
    → script_from count at (parts_at 10 text) ≡ nodes_from count (at + 1) (parts_at 10 behind)
go_next count at text line behind e go = rw (e, some_left (length (parts_at 10 behind)) (some_parts 10 behind), go) refl

-- a line that is neither go nor a fact
pub script_bad : (count at : ℕ) (text line behind : List ℕ) → parts_at 10 text ≡ line ∷ parts_at 10 behind → bytes_eq line (codes "go") ≡ false → fact_of line ≡ None
    → script_from count at (parts_at 10 text) ≡ Err at
script_bad count at text line behind e other none = rw (e, some_left (length (parts_at 10 behind)) (some_parts 10 behind), other, none) (bad_either (leb most count) at)

-- the line of the nodes, and the steps
pub nodes_next : (count at nodes : ℕ) (facts : List Fact) (steps : List (Step ℕ)) (text line behind : List ℕ)
    → parts_at 10 text ≡ line ∷ parts_at 10 behind → nodes_in_line line ≡ Some nodes → lines_from (step_of count) 0 (at + 1) (parts_at 10 behind) ≡ Ok steps
    → within (with_facts facts) (nodes_from count at (parts_at 10 text)) ≡ Ok (record { facts = facts; nodes = nodes; steps = steps })
nodes_next count at nodes facts steps text line behind e named asked = search (rules, some_parts)

-- ---- how a text opens

followed : (line : List ℕ) (rest : List (List ℕ)) → 0 < length rest → opening_of (line ∷ rest) ≡ opening_by (roster_in_line line)
unfolding opening_of
followed line rest some = search rules

opening_first : (text line behind : List ℕ) → parts_at 10 text ≡ line ∷ parts_at 10 behind → opening_of (parts_at 10 text) ≡ opening_by (roster_in_line line)
opening_first text line behind e = ap opening_of e ∙ followed line (parts_at 10 behind) (some_parts 10 behind)

-- the first line names a roster
pub opening_named : (text line behind : List ℕ) (roster : ℕ) → parts_at 10 text ≡ line ∷ parts_at 10 behind → roster_in_line line ≡ Some roster
    → opening_of (parts_at 10 text) ≡ opening_with roster 1
opening_named text line behind roster e is = opening_first text line behind e ∙ ap opening_by is

-- the first line names none
pub opening_unnamed : (text line behind : List ℕ) → parts_at 10 text ≡ line ∷ parts_at 10 behind → roster_in_line line ≡ None
    → opening_of (parts_at 10 text) ≡ opening_with 1 0
opening_unnamed text line behind e is = opening_first text line behind e ∙ ap opening_by is

-- there is no line
pub opening_last : (text : List ℕ) → parts_at 10 text ≡ text ∷ [] → opening_of (parts_at 10 text) ≡ opening_with 1 0
unfolding opening_of
opening_last text e = rw e refl
