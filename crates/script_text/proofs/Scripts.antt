-- Logs and scripts below the roster are read exactly where their lines are encoded.
use Rattle.std.proofs.Common.{◌≡◌, ℕ, ◌+◌, ◌<◌, ◌≤◌, inl, inr, true, false, cond, eqb, leb, List, [], ◌∷◌, ◌++◌, length, Option, Some, Result, Ok, Err, codes, refl, sym, ap, ◌∙◌, subst, arith, append_assoc, length-append, rules}
use Rattle.std.proofs.lemmas.Grind.{common_steps}
use Rattle.std.specs.Prelude.{bytes_eq}
use Rattle.std.specs.List.{AllZip}
use Rattle.std.proofs.lemmas.Bool.Decides.{nat_tests}
use Rattle.std.proofs.lemmas.Option.{none-some}
use Rattle.redo_core.specs.Shape.{max_number}
use Rattle.redo_core.specs.declared.facts.Fact.{Fact}
use Rattle.script_steps.specs.declared.steps.Step.{Step}
use Rattle.text.specs.Parts.{◌>>=◌, parts_at}
use Rattle.text.specs.Fields.{Form, form, of_one, read_by}
use Rattle.script_text.specs.FactLine.{fact_line, fact_of}
use Rattle.script_text.specs.StepLine.{step_of}
use Rattle.script_text.specs.Script.{ScriptData, most, most_nodes, positive, nodes_in_line, or_bad, within, asking, with_fact, lines_from, nodes_from, script_from}
use Rattle.text.specs.Wording.{worded}
use Rattle.script_text.specs.Encoded.{EncodesFact, EncodesStep, AreFacts, AsksSteps}
use Rattle.script_text.proofs.FactEncoding.{fact_lines_are_encoded}
use Rattle.text.proofs.Forms.{Reads, form_fields, read_has, both_same}
use Rattle.text.proofs.Options.{true_is, no_test}
use Rattle.script_text.proofs.Results.{end, not_good, past, one_of, or_bad_ok, within_ok, some_left, room, room_is, ended}
use Rattle.text.proofs.Split.{lacks}
use Rattle.script_text.proofs.StepEncoding.{step_lines_are_encoded}

pub AllZip-with : {A B : Type 0} (R S : A → B → Type 0) (xs : List A) (ys : List B) → ((a : A) (b : B) → R a b → S a b) → AllZip R xs ys → AllZip S xs ys
AllZip-with R S [] [] f h = tt
AllZip-with R S [] (y ∷ ys) f h = absurd h
AllZip-with R S (x ∷ xs) [] f h = absurd h
AllZip-with R S (x ∷ xs) (y ∷ ys) f h = (f x y h.0, AllZip-with R S xs ys f h.1)

-- ---- a word and a count from 1

abbrev pub Counts : List ℕ → ℕ → List ℕ → ℕ → Type 0
Counts word limit line n = (line ≡ worded word (n ∷ [])) × (1 ≤ n) × (n ≤ limit)

abbrev counting : List ℕ → ℕ → Form ℕ
counting word limit = form word (limit ∷ []) (of_one positive)

count_reads : (word : List ℕ) (limit : ℕ) → limit ≤ max_number → Reads (Counts word limit) (counting word limit)
count_reads word limit small = search rules

pub count_is_encoded : (word line : List ℕ) (limit n : ℕ) → limit ≤ max_number → read_by (counting word limit ∷ []) (parts_at 32 line) ≡ Some n
    → Counts word limit line n
count_is_encoded word line limit n small h = read_has (Counts word limit) (counting word limit ∷ []) line (parts_at 32 line) n
    (count_reads word limit small, tt) refl h

pub count_is_read : (word line : List ℕ) (limit n : ℕ) → limit ≤ max_number → bytes_eq word word ≡ true → lacks 32 word ≡ true → Counts word limit line n
    → read_by (counting word limit ∷ []) (parts_at 32 line) ≡ Some n
count_is_read word line limit n small same space c =
    let f = form_fields line word (limit ∷ []) (n ∷ []) (small, tt) (record { all = c.0; limited = (c.2, tt) }) space in
    let more : eqb n 0 ≡ false = grind (arith, nat_tests, c.1) in
    ap (read_by (counting word limit ∷ [])) f.fields ∙ rw same (ap (λ (o : Option (List ℕ)). o >>= of_one positive) f.numbers ∙ rw more refl)

abbrev EncodesNodes : List ℕ → ℕ → Type 0
EncodesNodes line nodes = Counts (codes "nodes") most_nodes line nodes

nodes_are_encoded : (line : List ℕ) (nodes : ℕ) → nodes_in_line line ≡ Some nodes → EncodesNodes line nodes
unfolding nodes_in_line
nodes_are_encoded line nodes h = count_is_encoded (codes "nodes") line most_nodes nodes (omega arith) h

nodes_are_read : (line : List ℕ) (nodes : ℕ) → EncodesNodes line nodes → nodes_in_line line ≡ Some nodes
unfolding nodes_in_line
nodes_are_read line nodes h = count_is_read (codes "nodes") line most_nodes nodes (omega arith) refl refl h

-- ---- lines that are read one by one

pub last_ok : {A : Type 0} (x : List ℕ) (at : ℕ) (ys : List A) → cond (eqb (length x) 0) (Ok []) (Err at) ≡ Ok ys → (x ≡ []) × (ys ≡ [])
last_ok x at ys h = grind (arith, common_steps)

-- the next line was read
pub lines_next : {A : Type 0} (said : List ℕ → Option A) (count at : ℕ) (x : List ℕ) (rest : List (List ℕ)) (a : A) → 0 < length rest → count < most
    → said x ≡ Some a
    → lines_from said count at (x ∷ rest) ≡ within (λ xs. a ∷ xs) (lines_from said (count + 1) (at + 1) rest)
lines_next said count at x rest a some lt e = rw (some_left (length rest) some, room most count lt, e) refl

-- what the lines say
record Said {A : Type 0} (said : List ℕ → Option A) (count : ℕ) (parts : List (List ℕ)) (xs : List A) : Type 0 where
  lines : List (List ℕ)
  all : parts ≡ lines ++ end
  each : AllZip (λ l x. said l ≡ Some x) lines xs
  few : count + length lines ≤ most

lines_said : {A : Type 0} (said : List ℕ → Option A) (count at : ℕ) (parts : List (List ℕ)) (xs : List A) → 0 < length parts → count ≤ most
    → lines_from said count at parts ≡ Ok xs → Said said count parts xs
lines_said said count at [] xs some le h = absurd (omega arith)
lines_said {A} said count at (x ∷ []) xs some le h =
    let e = last_ok x at xs h in
    let none : AllZip (λ l a. said l ≡ Some a) [] xs = subst (AllZip (λ l a. said l ≡ Some a) []) (sym e.1) tt in
    record { lines = []; all = ap (λ (t : List ℕ). t ∷ []) e.0; each = none; few = omega arith }
lines_said {A} said count at (x ∷ y ∷ more) xs some le h =
    let next : A → Result (List A) ℕ = λ a. within (λ ys. a ∷ ys) (lines_from said (count + 1) (at + 1) (y ∷ more)) in
    let tried = past (leb most count) at (or_bad at (said x) next) xs (rw (some_left (length (y ∷ more)) (omega arith)) at h) in
    let one = or_bad_ok at (said x) next xs tried.1 in
    let rest = within_ok (λ ys. one.0 ∷ ys) (lines_from said (count + 1) (at + 1) (y ∷ more)) xs one.2 in
    let lt : count < most = room_is most count tried.0 in
    let others = lines_said said (count + 1) (at + 1) (y ∷ more) rest.0 (omega arith) (omega arith) rest.1 in
    let each : AllZip (λ l a. said l ≡ Some a) (x ∷ others.lines) xs = subst (AllZip (λ l a. said l ≡ Some a) (x ∷ others.lines)) (sym rest.2)
    (one.1, others.each) in
    record { lines = x ∷ others.lines; all = ap (λ (t : List (List ℕ)). x ∷ t) others.all; each = each; few = omega (arith, others.few) }

lines_read : {A : Type 0} (said : List ℕ → Option A) (count at : ℕ) (lines : List (List ℕ)) (xs : List A) → AllZip (λ l x. said l ≡ Some x) lines xs
    → count + length lines ≤ most → lines_from said count at (lines ++ end) ≡ Ok xs
lines_read said count at [] [] h le = refl
lines_read said count at [] (x ∷ xs) h le = absurd h
lines_read said count at (l ∷ ls) [] h le = absurd h
lines_read said count at (l ∷ ls) (x ∷ xs) h le =
    let rest = lines_read said (count + 1) (at + 1) ls xs h.1 (omega arith) in
    lines_next said count at l (ls ++ end) x (ended ls) (omega arith) h.0 ∙ ap (within (λ ys. x ∷ ys)) rest

-- ---- fact lines alone

pub facts_are_read : (at : ℕ) (lines : List (List ℕ)) (facts : List Fact) → AreFacts lines facts → lines_from fact_of 0 at (lines ++ end) ≡ Ok facts
facts_are_read at lines facts h =
    let each = AllZip-with EncodesFact (λ l f. fact_of l ≡ Some f) lines facts (λ l f. (fact_lines_are_encoded l f).1) h.0 in
    lines_read fact_of 0 at lines facts each (omega (arith, h.1))

pub facts_are_encoded : (at : ℕ) (parts : List (List ℕ)) (facts : List Fact) → 0 < length parts → lines_from fact_of 0 at parts ≡ Ok facts
    → (lines : List (List ℕ)) × (parts ≡ lines ++ end) × AreFacts lines facts
facts_are_encoded at parts facts some h =
    let s = lines_said fact_of 0 at parts facts some (omega arith) h in
    (s.lines, s.all, (AllZip-with (λ l f. fact_of l ≡ Some f) EncodesFact s.lines facts (λ l f. (fact_lines_are_encoded l f).0) s.each, omega (arith, s.few)))

-- ---- the line of the nodes, and the steps

record Tail (facts : ℕ) (parts : List (List ℕ)) (s : ScriptData) : Type 0 where
  nodes : List ℕ
  lines : List (List ℕ)
  all : parts ≡ nodes ∷ (lines ++ end)
  named : EncodesNodes nodes s.nodes
  each : AllZip (λ l a. step_of facts l ≡ Some a) lines s.steps
  none : s.facts ≡ []
  few : length lines ≤ most

nodes_said : (facts at : ℕ) (parts : List (List ℕ)) (s : ScriptData) → nodes_from facts at parts ≡ Ok s → Tail facts parts s
nodes_said facts at [] s h = absurd (not_good at s h)
nodes_said facts at (x ∷ []) s h = absurd (not_good at s h)
nodes_said facts at (x ∷ y ∷ more) s h =
    let next : ℕ → Result ScriptData ℕ = λ nodes. within (asking nodes) (lines_from (step_of facts) 0 (at + 1) (y ∷ more)) in
    let one = or_bad_ok at (nodes_in_line x) next s (rw (some_left (length (y ∷ more)) (omega arith)) at h) in
    let steps = within_ok (asking one.0) (lines_from (step_of facts) 0 (at + 1) (y ∷ more)) s one.2 in
    let rest = lines_said (step_of facts) 0 (at + 1) (y ∷ more) steps.0 (omega arith) (omega arith) steps.1 in
    let named : EncodesNodes x s.nodes = subst (λ (t : ScriptData). EncodesNodes x t.nodes) (sym steps.2) (nodes_are_encoded x one.0 one.1) in
    let each : AllZip (λ l a. step_of facts l ≡ Some a) rest.lines s.steps = subst
    (λ (t : ScriptData). AllZip (λ l a. step_of facts l ≡ Some a) rest.lines t.steps) (sym steps.2) rest.each in
    let none : s.facts ≡ [] = ap (λ (t : ScriptData). t.facts) steps.2 in
    record {
      nodes = x;
      lines = rest.lines;
      all = ap (λ (t : List (List ℕ)). x ∷ t) rest.all;
      named = named;
      each = each;
      none = none;
      few = omega (arith, rest.few);
    }

nodes_read : (facts at nodes : ℕ) (line : List ℕ) (lines : List (List ℕ)) (steps : List (Step ℕ)) → EncodesNodes line nodes
    → AllZip (λ l a. step_of facts l ≡ Some a) lines steps → length lines ≤ most
    → nodes_from facts at (line ∷ (lines ++ end)) ≡ Ok (asking nodes steps)
nodes_read facts at nodes line lines steps n h le =
    let rest = lines_read (step_of facts) 0 (at + 1) lines steps h (omega arith) in
    rw (some_left (length (lines ++ end)) (ended lines), nodes_are_read line nodes n, rest) refl

-- ---- whole scripts

-- no fact line is go
go_is_no_fact : (f : Fact) → fact_of (codes "go") ≡ Some f → ⊥
unfolding fact_line
go_is_no_fact f h = none-some f h

fact_is_not_go : (x : List ℕ) (f : Fact) → fact_of x ≡ Some f → bytes_eq x (codes "go") ≡ false
fact_is_not_go x f h = no_test (bytes_eq x (codes "go")) (λ t. let e : x ≡ codes "go" = true_is x (codes "go") t in go_is_no_fact f (sym (ap fact_of e) ∙ h))

-- the next line is go
pub script_go : (count at : ℕ) (rest : List (List ℕ)) → 0 < length rest → script_from count at (codes "go" ∷ rest) ≡ nodes_from count (at + 1) rest
script_go count at rest some = rw (some_left (length rest) some) refl

-- the next line was read as a fact
pub script_next : (count at : ℕ) (x : List ℕ) (rest : List (List ℕ)) (f : Fact) → 0 < length rest → count < most → fact_of x ≡ Some f
    → script_from count at (x ∷ rest) ≡ within (with_fact f) (script_from (count + 1) (at + 1) rest)
script_next count at x rest f some lt e = rw (some_left (length rest) some, fact_is_not_go x f e, room most count lt, e) refl

-- what the lines from some fact on say
record Whole (count : ℕ) (parts : List (List ℕ)) (s : ScriptData) : Type 0 where
  facts : List (List ℕ)
  nodes : List ℕ
  steps : List (List ℕ)
  all : parts ≡ facts ++ (codes "go" ∷ nodes ∷ (steps ++ end))
  named : EncodesNodes nodes s.nodes
  said : AllZip (λ l f. fact_of l ≡ Some f) facts s.facts
  asked : AllZip (λ l a. step_of (count + length facts) l ≡ Some a) steps s.steps
  few_facts : count + length facts ≤ most
  few_steps : length steps ≤ most

whole_go : (count at : ℕ) (x : List ℕ) (rest : List (List ℕ)) (s : ScriptData) → count ≤ most → bytes_eq x (codes "go") ≡ true
    → nodes_from count (at + 1) rest ≡ Ok s → Whole count (x ∷ rest) s
whole_go count at x rest s le go was =
    let tail = nodes_said count (at + 1) rest s was in
    let e : x ≡ codes "go" = true_is x (codes "go") go in
    let n : count ≡ count + 0 = omega arith in
    let said : AllZip (λ l f. fact_of l ≡ Some f) [] s.facts = subst (AllZip (λ l f. fact_of l ≡ Some f) []) (sym tail.none) tt in
    let asked : AllZip (λ l a. step_of (count + 0) l ≡ Some a) tail.lines s.steps = subst
    (λ (k : ℕ). AllZip (λ l a. step_of k l ≡ Some a) tail.lines s.steps) n tail.each in
    record {
      facts = [];
      nodes = tail.nodes;
      steps = tail.lines;
      all = both_same x (codes "go") rest _ e tail.all;
      named = tail.named;
      said = said;
      asked = asked;
      few_facts = omega arith;
      few_steps = tail.few;
    }

whole_more : (count : ℕ) (x : List ℕ) (rest : List (List ℕ)) (f : Fact) (others s : ScriptData) → fact_of x ≡ Some f → s ≡ with_fact f others
    → Whole (count + 1) rest others → Whole count (x ∷ rest) s
whole_more count x rest f others s one e w =
    let n : count + 1 + length w.facts ≡ count + length (x ∷ w.facts) = omega arith in
    let said : AllZip (λ l a. fact_of l ≡ Some a) (x ∷ w.facts) s.facts = subst (λ (t : ScriptData). AllZip (λ l a. fact_of l ≡ Some a) (x ∷ w.facts) t.facts)
    (sym e) (one, w.said) in
    let moved : AllZip (λ l a. step_of (count + length (x ∷ w.facts)) l ≡ Some a) w.steps others.steps = subst
    (λ (k : ℕ). AllZip (λ l a. step_of k l ≡ Some a) w.steps others.steps) n w.asked in
    let asked : AllZip (λ l a. step_of (count + length (x ∷ w.facts)) l ≡ Some a) w.steps s.steps =
    subst (λ (t : ScriptData). AllZip (λ l a. step_of (count + length (x ∷ w.facts)) l ≡ Some a) w.steps t.steps) (sym e) moved in
    let named : EncodesNodes w.nodes s.nodes = subst (λ (t : ScriptData). EncodesNodes w.nodes t.nodes) (sym e) w.named in
    record {
      facts = x ∷ w.facts;
      nodes = w.nodes;
      steps = w.steps;
      all = ap (λ (t : List (List ℕ)). x ∷ t) w.all;
      named = named;
      said = said;
      asked = asked;
      few_facts = omega (arith, w.few_facts);
      few_steps = w.few_steps;
    }

whole_said : (count at : ℕ) (parts : List (List ℕ)) (s : ScriptData) → count ≤ most → script_from count at parts ≡ Ok s → Whole count parts s
whole_said count at [] s le h = absurd (not_good at s h)
whole_said count at (x ∷ []) s le h = absurd (not_good at s h)
whole_said count at (x ∷ y ∷ more) s le h =
    let next : Fact → Result ScriptData ℕ = λ f. within (with_fact f) (script_from (count + 1) (at + 1) (y ∷ more)) in
    let tried : Result ScriptData ℕ = cond (leb most count) (Err at) (or_bad at (fact_of x) next) in
    elim (one_of (bytes_eq x (codes "go")) (nodes_from count (at + 1) (y ∷ more)) tried (Ok s) (rw (some_left (length (y ∷ more)) (omega arith)) at h)) [
      | inl go ↦ whole_go count at x (y ∷ more) s le go.0 go.1
      | inr other ↦
          let r = past (leb most count) at (or_bad at (fact_of x) next) s other.1 in
          let lt : count < most = room_is most count r.0 in
          let one = or_bad_ok at (fact_of x) next s r.1 in
          let others = within_ok (with_fact one.0) (script_from (count + 1) (at + 1) (y ∷ more)) s one.2 in
          whole_more count x (y ∷ more) one.0 others.0 s one.1 others.2 (whole_said (count + 1) (at + 1) (y ∷ more) others.0 (omega arith) others.1)
    ]

pub steps_are_encoded : (at : ℕ) (parts : List (List ℕ)) (s : ScriptData) → 0 < length parts → script_from 0 at parts ≡ Ok s
    → (lines : List (List ℕ)) × (parts ≡ lines ++ end) × AsksSteps lines s
steps_are_encoded at parts s some h =
    let w = whole_said 0 at parts s (omega arith) h in
    let nodes : w.nodes ≡ worded (codes "nodes") (s.nodes ∷ []) = (w.named).0 in
    let lines : List (List ℕ) = w.facts ++ (codes "go" ∷ w.nodes ∷ w.steps) in
    let all : parts ≡ lines ++ end = w.all ∙ sym (append_assoc w.facts (codes "go" ∷ w.nodes ∷ w.steps) end) in
    let shown : lines ≡ w.facts ++ (codes "go" ∷ worded (codes "nodes") (s.nodes ∷ []) ∷ w.steps) = ap
    (λ (t : List ℕ). w.facts ++ (codes "go" ∷ t ∷ w.steps)) nodes in
    let n : 0 + length w.facts ≡ length w.facts = omega arith in
    let few : length w.facts ≤ most = omega (arith, w.few_facts) in
    let said = AllZip-with (λ l f. fact_of l ≡ Some f) EncodesFact w.facts s.facts (λ l f. (fact_lines_are_encoded l f).0) w.said in
    let own : AllZip (λ l a. step_of (length w.facts) l ≡ Some a) w.steps s.steps = subst
    (λ (k : ℕ). AllZip (λ l a. step_of k l ≡ Some a) w.steps s.steps) n w.asked in
    let asked = AllZip-with (λ l a. step_of (length w.facts) l ≡ Some a) (EncodesStep (length w.facts)) w.steps s.steps
    (λ l a. (step_lines_are_encoded (length w.facts) l a few).0) own in (
      lines,
      all,
      record {
        facts = w.facts;
        steps = w.steps;
        all = shown;
        said = said;
        some_nodes = (w.named).1;
        few_nodes = (w.named).2;
        asked = asked;
        few_facts = few;
        few_steps = w.few_steps;
      },
    )

whole_read : (count at nodes : ℕ) (line : List ℕ) (facts steps : List (List ℕ)) (fs : List Fact) (ss : List (Step ℕ)) → EncodesNodes line nodes
    → AllZip (λ l f. fact_of l ≡ Some f) facts fs
    → AllZip (λ l a. step_of (count + length facts) l ≡ Some a) steps ss → count + length facts ≤ most → length steps ≤ most
    → script_from count at (facts ++ (codes "go" ∷ line ∷ (steps ++ end))) ≡ Ok (record { facts = fs; nodes = nodes; steps = ss })
whole_read count at nodes line [] steps [] ss named p q le few =
    let n : count + 0 ≡ count = omega arith in
    let rest = nodes_read count (at + 1) nodes line steps ss named (subst (λ (k : ℕ). AllZip (λ l a. step_of k l ≡ Some a) steps ss) n q) few in
    script_go count at (line ∷ (steps ++ end)) (omega arith) ∙ rest
whole_read count at nodes line [] steps (f ∷ fs) ss named p q le few = absurd p
whole_read count at nodes line (x ∷ xs) steps [] ss named p q le few = absurd p
whole_read count at nodes line (x ∷ xs) steps (f ∷ fs) ss named p q le few =
    let n : count + length (x ∷ xs) ≡ count + 1 + length xs = omega arith in
    let others : List (List ℕ) = codes "go" ∷ line ∷ (steps ++ end) in
    let some : 0 < length (xs ++ others) = omega (arith, length-append xs others) in
    let rest = whole_read (count + 1) (at + 1) nodes line xs steps fs ss named p.1 (subst (λ (k : ℕ). AllZip (λ l a. step_of k l ≡ Some a) steps ss) n q)
    (omega arith) few in
    script_next count at x (xs ++ others) f some (omega arith) p.0 ∙ ap (within (with_fact f)) rest

pub steps_are_read : (at : ℕ) (lines : List (List ℕ)) (s : ScriptData) → AsksSteps lines s → script_from 0 at (lines ++ end) ≡ Ok s
steps_are_read at lines s i =
    let line : List ℕ = worded (codes "nodes") (s.nodes ∷ []) in
    let named : EncodesNodes line s.nodes = (refl, i.some_nodes, i.few_nodes) in
    let n : length i.facts ≡ 0 + length i.facts = omega arith in
    let parts : lines ++ end ≡ i.facts ++ (codes "go" ∷ line ∷ (i.steps ++ end)) = ap (λ (t : List (List ℕ)). t ++ end) i.all ∙ append_assoc i.facts
    (codes "go" ∷ line ∷ i.steps) end in
    let said = AllZip-with EncodesFact (λ l f. fact_of l ≡ Some f) i.facts s.facts (λ l f. (fact_lines_are_encoded l f).1) i.said in
    let asked = AllZip-with (EncodesStep (length i.facts)) (λ l a. step_of (length i.facts) l ≡ Some a) i.steps s.steps
    (λ l a. (step_lines_are_encoded (length i.facts) l a i.few_facts).1) i.asked in
    ap (script_from 0 at) parts ∙ whole_read 0 at s.nodes line i.facts i.steps s.facts s.steps named said
    (subst (λ (k : ℕ). AllZip (λ l a. step_of k l ≡ Some a) i.steps s.steps) n asked) (omega (arith, i.few_facts)) i.few_steps
