-- Whole texts: a roster's line or none; then fact lines, the line go, a line of nodes and step lines, or fact lines alone.
use Rattle.std.specs.Prelude.{ℕ, ◌+◌, ◌==◌, nat_le, if◌then◌else◌, List, [], ◌∷◌, ◌++◌, length, drop, Option, Some, None, Result, Ok, Err, codes, bytes_eq}
use Rattle.redo_core.specs.Shape.{max_readers}
use Rattle.redo_core.specs.declared.facts.Fact.{Fact}
use Rattle.script_steps.specs.declared.steps.Step.{Step}
use Rattle.text.specs.Parts.{parts_at}
use Rattle.text.specs.Fields.{Form, form, of_one, read_by}
use Rattle.script_text.specs.FactLine.{fact_of}
use Rattle.script_text.specs.StepLine.{step_of}

-- what a script says below its roster
pub record ScriptData : Type 0 where
  pub facts : List Fact
  pub nodes : ℕ
  pub steps : List (Step ℕ)

-- what is said of a log with a roster of so many readers
pub record Rostered (A : Type 0) : Type 0 where
  pub roster : ℕ
  pub said : A

abbrev pub rostered : {A : Type 0} → ℕ → A → Rostered A
rostered roster x = record { roster = roster; said = x }

-- how many fact lines, and how many step lines, there may be
abbrev pub most : ℕ
most = 1000000

-- how many nodes there may be
abbrev pub most_nodes : ℕ
most_nodes = 64

-- one of 1, 2 and so on
abbrev pub positive : ℕ → Option ℕ
positive n = if n == 0 then None else Some n

-- the readers of a line like roster 2
abbrev pub roster_form : Form ℕ
roster_form = form (codes "roster") (max_readers ∷ []) (of_one positive)

unfoldable pub roster_in_line : List ℕ → Option ℕ
roster_in_line line = read_by (roster_form ∷ []) (parts_at 32 line)

-- the nodes of a line like nodes 2
abbrev pub nodes_form : Form ℕ
nodes_form = form (codes "nodes") (most_nodes ∷ []) (of_one positive)

unfoldable pub nodes_in_line : List ℕ → Option ℕ
nodes_in_line line = read_by (nodes_form ∷ []) (parts_at 32 line)

-- what a line said, and then the rest, or that the line of this number is bad
abbrev pub or_bad : {A B : Type 0} → ℕ → Option A → (A → Result B ℕ) → Result B ℕ
or_bad at (Some x) f = f x
or_bad at None f = Err at

-- what was read, as part of more
abbrev pub within : {A B : Type 0} → (A → B) → Result A ℕ → Result B ℕ
within onto (Ok x) = Ok (onto x)
within onto (Err at) = Err at

-- What the lines say, one by one; so many came before, and the first has the number at. The last part stands behind the last
-- LF: it is no line where it is empty, and else a bad one.
abbrev pub lines_from : {A : Type 0} → (List ℕ → Option A) → ℕ → ℕ → List (List ℕ) → Result (List A) ℕ
lines_from said count at [] = Ok []
lines_from said count at (line ∷ rest) =
    if length rest == 0 then (if length line == 0 then Ok [] else Err at)
    else if nat_le most count then Err at
    else or_bad at (said line) (λ x. within (λ xs. x ∷ xs) (lines_from said (count + 1) (at + 1) rest))

-- a script that has no facts yet
abbrev pub asking : ℕ → List (Step ℕ) → ScriptData
asking nodes steps = record { facts = []; nodes = nodes; steps = steps }

abbrev pub with_fact : Fact → ScriptData → ScriptData
with_fact f s = record s { facts = f ∷ s.facts }

abbrev pub with_facts : List Fact → ScriptData → ScriptData
with_facts facts s = record s { facts = facts ++ s.facts }

-- the line of the nodes, and the steps
abbrev pub nodes_from : ℕ → ℕ → List (List ℕ) → Result ScriptData ℕ
nodes_from facts at [] = Err at
nodes_from facts at (line ∷ rest) =
    if length rest == 0 then Err at
    else or_bad at (nodes_in_line line) (λ nodes. within (asking nodes) (lines_from (step_of facts) 0 (at + 1) rest))

-- The facts up to go, and what follows. So many facts came before, and the first line has the number at.
abbrev pub script_from : ℕ → ℕ → List (List ℕ) → Result ScriptData ℕ
script_from count at [] = Err at
script_from count at (line ∷ rest) =
    if length rest == 0 then Err at
    else if bytes_eq line (codes "go") then nodes_from count (at + 1) rest
    else if nat_le most count then Err at
    else or_bad at (fact_of line) (λ f. within (with_fact f) (script_from (count + 1) (at + 1) rest))

-- the roster of a text, and how many lines name it
pub record Preamble : Type 0 where
  pub roster : ℕ
  pub lines : ℕ

abbrev pub opening_with : ℕ → ℕ → Preamble
opening_with roster lines = record { roster = roster; lines = lines }

-- the roster that the first line names, or else the roster 1
abbrev pub opening_by : Option ℕ → Preamble
opening_by (Some roster) = opening_with roster 1
opening_by None = opening_with 1 0

-- a line that is not ended names none
unfoldable pub opening_of : List (List ℕ) → Preamble
opening_of [] = opening_with 1 0
opening_of (last ∷ []) = opening_with 1 0
opening_of (line ∷ next ∷ rest) = opening_by (roster_in_line line)

-- what the lines below the opening say
abbrev pub below : {A : Type 0} → (ℕ → List (List ℕ) → Result A ℕ) → Preamble → List (List ℕ) → Result (Rostered A) ℕ
below read o lines = within (rostered o.roster) (read (o.lines + 1) (drop o.lines lines))

abbrev pub opened : {A : Type 0} → (ℕ → List (List ℕ) → Result A ℕ) → List (List ℕ) → Result (Rostered A) ℕ
opened read lines = below read (opening_of lines) lines

-- the script that the text encodes, or its least bad line
abbrev pub script_of : List ℕ → Result (Rostered ScriptData) ℕ
script_of text = opened (script_from 0) (parts_at 10 text)

-- the facts that the text encodes, a fact a line, or its least bad line
abbrev pub facts_of : List ℕ → Result (Rostered (List Fact)) ℕ
facts_of text = opened (lines_from fact_of 0) (parts_at 10 text)
