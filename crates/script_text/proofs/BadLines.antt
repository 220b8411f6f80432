-- The bad line is the least: the lines before it begin a good text, and with it they begin none.
use Rattle.std.proofs.Common.{◌≡◌, ℕ, ◌+◌, ◌-◌, ◌<◌, ◌≤◌, inl, inr, true, false, cond, eqb, leb, List, [], ◌∷◌, ◌++◌, length, take, drop, Option, Some, None, Result, Ok, Err, codes, refl, sym, ap, ◌∙◌, subst, arith, append_assoc, length-append, rules}
use Rattle.std.proofs.lemmas.Grind.{common_steps}
use Rattle.std.specs.Prelude.{bytes_eq}
use Rattle.std.proofs.Math.Seq.{take-add, take-append_seam}
use Rattle.std.proofs.lemmas.List.{append_cancel_right}
use Rattle.redo_core.specs.declared.facts.Fact.{Fact}
use Rattle.script_text.specs.FactLine.{fact_of}
use Rattle.text.specs.Number.{digits_of}
use Rattle.script_text.specs.StepLine.{step_of}
use Rattle.text.specs.Parts.{parts_at}
use Rattle.script_text.specs.Script.{ScriptData, rostered, most, or_bad, within, asking, with_fact, nodes_in_line, roster_in_line, lines_from, nodes_from, script_from, opened, script_of, facts_of}
use Rattle.script_text.specs.Laws.{BadScriptLineIsLeast, BadFactLineIsLeast}
use Rattle.script_text.specs.Encoded.{AreFacts, AsksSteps, IsLog, IsScript, Encodes, Begins, IsLeastBadLine}
use Rattle.script_text.proofs.Results.{end, bad_is, refused, one_of, found, within_ok, within_bad, some_left, room_is, ended}
use Rattle.script_text.proofs.Scripts.{lines_next, script_next}
use Rattle.script_text.proofs.Rosters.{Reader, facts_reader, steps_reader, opened_plain, opened_named, opened_last, opened_read, rostered_is_encoded, rostered_is_read, scripts_are_encoded, logs_are_encoded}
use Rattle.text.proofs.Split.{some_parts}

-- Where a reader stops: behind the lines before, which more lines would complete, at a line that no others complete.
record Stops {A : Type 0} (read : List (List ℕ) → Result A ℕ) (at : ℕ) (parts : List (List ℕ)) (stop : ℕ) : Type 0 where
  before : List (List ℕ)
  here : List ℕ
  after : List (List ℕ)
  all : parts ≡ before ++ here ∷ after
  place : at + length before ≡ stop
  more : List (List ℕ)
  said : A
  good : read (before ++ (more ++ end)) ≡ Ok said
  bad : 0 < length after → (others : List (List ℕ)) (x : A) → 0 < length others → read (before ++ here ∷ others) ≡ Ok x → ⊥

-- ---- lines that are read one by one

record Refuses {A : Type 0} (read : List (List ℕ) → Result A ℕ) (at : ℕ) (x : List ℕ) : Type 0 where
  always : (others : List (List ℕ)) → 0 < length others → read (x ∷ others) ≡ Err at

-- a reader stops at a line that it refuses whatever follows
stops_here : {A : Type 0} (read : List (List ℕ) → Result A ℕ) (at stop : ℕ) (x : List ℕ) (rest more : List (List ℕ)) (said : A) → at ≡ stop
    → read (more ++ end) ≡ Ok said → Refuses read at x → Stops read at (x ∷ rest) stop
stops_here read at stop x rest more said e h r = grind (arith, common_steps)

-- behind the last LF
stops_last : {A : Type 0} (read : List (List ℕ) → Result A ℕ) (at stop : ℕ) (x : List ℕ) (more : List (List ℕ)) (said : A) → at ≡ stop
    → read (more ++ end) ≡ Ok said → Stops read at (x ∷ []) stop
stops_last read at stop x more said e h = grind (arith, common_steps)

-- a reader that goes on with another behind a line stops where the other does
stops_later : {A B : Type 0} (read : List (List ℕ) → Result A ℕ) (later : List (List ℕ) → Result B ℕ) (onto : Result B ℕ → Result A ℕ) (at stop : ℕ)
    (x : List ℕ) (rest : List (List ℕ))
    → ((others : List (List ℕ)) → 0 < length others → read (x ∷ others) ≡ onto (later others))
    → ((b : B) → (a : A) × (onto (Ok b) ≡ Ok a))
    → ((r : Result B ℕ) (a : A) → onto r ≡ Ok a → (b : B) × (r ≡ Ok b))
    → Stops later (at + 1) rest stop → Stops read at (x ∷ rest) stop
stops_later read later onto at stop x rest next up down s =
    let whole = up s.said in
    let some : 0 < length (s.before ++ (s.more ++ end)) = omega (arith, length-append s.before (s.more ++ end), ended s.more) in
    let place : at + length (x ∷ s.before) ≡ stop = omega (arith, s.place) in
    record {
      before = x ∷ s.before;
      here = s.here;
      after = s.after;
      all = ap (λ (t : List (List ℕ)). x ∷ t) s.all;
      place = place;
      more = s.more;
      said = whole.0;
      good = next (s.before ++ (s.more ++ end)) some ∙ ap onto s.good ∙ whole.1;
      bad = λ behind others a some_others h.
          let left : 0 < length (s.before ++ s.here ∷ others) = omega (arith, length-append s.before (s.here ∷ others)) in
          let r = down (later (s.before ++ s.here ∷ others)) a (sym (next (s.before ++ s.here ∷ others) left) ∙ h) in
          s.bad behind others r.0 some_others r.1;
    }

within_up : {A B : Type 0} (onto : A → B) (x : A) → (y : B) × (within onto (Ok x) ≡ Ok y)
within_up onto x = (onto x, refl)

within_down : {A B : Type 0} (onto : A → B) (r : Result A ℕ) (y : B) → within onto r ≡ Ok y → (x : A) × (r ≡ Ok x)
within_down onto r y h = let e = within_ok onto r y h in (e.0, e.1)

lines_past : {A : Type 0} (said : List ℕ → Option A) (count at : ℕ) (x : List ℕ) → leb most count ≡ true → Refuses (lines_from said count at) at x
lines_past said count at x late = record { always = λ others some. rw (some_left (length others) some, late) refl }

lines_none : {A : Type 0} (said : List ℕ → Option A) (count at : ℕ) (x : List ℕ) → leb most count ≡ false → said x ≡ None
    → Refuses (lines_from said count at) at x
lines_none said count at x in_time none = record { always = λ others some. rw (some_left (length others) some, in_time, none) refl }

abbrev pub good_none : {A : Type 0} → Result (List A) ℕ
good_none = Ok []

pub lines_last : {A : Type 0} (x : List ℕ) (at stop : ℕ) → cond (eqb (length x) 0) (good_none {A = A}) (Err at) ≡ Err stop → at ≡ stop
lines_last x at stop h = search rules

lines_stop : {A : Type 0} (said : List ℕ → Option A) (count at : ℕ) (parts : List (List ℕ)) (stop : ℕ) → 0 < length parts
    → lines_from said count at parts ≡ Err stop → Stops (lines_from said count at) at parts stop
lines_stop said count at [] stop some h = absurd (omega arith)
lines_stop {A} said count at (x ∷ []) stop some h = stops_last (lines_from said count at) at stop x [] [] (lines_last {A = A} x at stop h) refl
lines_stop {A} said count at (x ∷ y ∷ more) stop some h =
    let next : A → Result (List A) ℕ = λ a. within (λ xs. a ∷ xs) (lines_from said (count + 1) (at + 1) (y ∷ more)) in
    elim (one_of (leb most count) (Err at) (or_bad at (said x) next) (Err stop) (rw (some_left (length (y ∷ more)) (omega arith)) at h)) [
      | inl late ↦ stops_here (lines_from said count at) at stop x (y ∷ more) [] [] (bad_is {A = List A} at stop late.1) refl
          (lines_past said count at x late.0)
      | inr time ↦
          elim (found (said x)) [
            | inl none ↦ stops_here (lines_from said count at) at stop x (y ∷ more) [] [] (bad_is {A = List A} at stop (rw none at time.1)) refl
                (lines_none said count at x time.0 none)
            | inr one ↦
                let rest = lines_stop said (count + 1) (at + 1) (y ∷ more) stop (omega arith)
                (within_bad (λ xs. one.0 ∷ xs) (lines_from said (count + 1) (at + 1) (y ∷ more)) stop (rw one.1 at time.1)) in
                let lt : count < most = room_is most count time.0 in
                stops_later (lines_from said count at) (lines_from said (count + 1) (at + 1)) (within (λ xs. one.0 ∷ xs)) at stop x (y ∷ more)
                (λ others left. lines_next said count at x others one.0 left lt one.1) (within_up (λ xs. one.0 ∷ xs)) (within_down (λ xs. one.0 ∷ xs)) rest
          ]
    ]

-- ---- the line of the nodes, and the steps

nodes_refused : (facts at : ℕ) (x : List ℕ) → nodes_in_line x ≡ None → Refuses (nodes_from facts at) at x
nodes_refused facts at x e = record { always = λ others some. rw (some_left (length others) some, e) refl }

nodes_next : (facts at nodes : ℕ) (x : List ℕ) (others : List (List ℕ)) → 0 < length others → nodes_in_line x ≡ Some nodes
    → nodes_from facts at (x ∷ others) ≡ within (asking nodes) (lines_from (step_of facts) 0 (at + 1) others)
nodes_next facts at nodes x others some e = rw (some_left (length others) some, e) refl

one_node : nodes_in_line (codes "nodes 1") ≡ Some 1
unfolding nodes_in_line digits_of
one_node = refl

abbrev only_nodes : List (List ℕ)
only_nodes = codes "nodes 1" ∷ []

-- a script that asks nothing
abbrev nothing : ScriptData
nothing = asking 1 []

nodes_alone : (facts at : ℕ) → nodes_from facts at (only_nodes ++ end) ≡ Ok nothing
nodes_alone facts at = rw one_node refl

abbrev go_nodes : List (List ℕ)
go_nodes = codes "go" ∷ codes "nodes 1" ∷ []

go_nodes_alone : (count at : ℕ) → script_from count at (go_nodes ++ end) ≡ Ok nothing
go_nodes_alone count at = nodes_alone count (at + 1)

nodes_stop : (facts at : ℕ) (parts : List (List ℕ)) (stop : ℕ) → 0 < length parts → nodes_from facts at parts ≡ Err stop
    → Stops (nodes_from facts at) at parts stop
nodes_stop facts at [] stop some h = absurd (omega arith)
nodes_stop facts at (x ∷ []) stop some h = stops_last (nodes_from facts at) at stop x only_nodes nothing (bad_is {A = ScriptData} at stop h)
    (nodes_alone facts at)
nodes_stop facts at (x ∷ y ∷ more) stop some h =
    elim (found (nodes_in_line x)) [
      | inl none ↦
          let wrong = rw (some_left (length (y ∷ more)) (omega arith), none) at h in
          stops_here (nodes_from facts at) at stop x (y ∷ more) only_nodes nothing (bad_is {A = ScriptData} at stop wrong) (nodes_alone facts at)
          (nodes_refused facts at x none)
      | inr is ↦
          let steps = sym (nodes_next facts at is.0 x (y ∷ more) (omega arith) is.1) ∙ h in
          let rest = lines_stop (step_of facts) 0 (at + 1) (y ∷ more) stop (omega arith)
          (within_bad (asking is.0) (lines_from (step_of facts) 0 (at + 1) (y ∷ more)) stop steps) in
          stops_later (nodes_from facts at) (lines_from (step_of facts) 0 (at + 1)) (within (asking is.0)) at stop x (y ∷ more)
          (λ others left. nodes_next facts at is.0 x others left is.1) (within_up (asking is.0)) (within_down (asking is.0)) rest
    ]

-- ---- whole scripts

script_past : (count at : ℕ) (x : List ℕ) → bytes_eq x (codes "go") ≡ false → leb most count ≡ true → Refuses (script_from count at) at x
script_past count at x e late = record { always = λ others some. rw (some_left (length others) some, e, late) refl }

script_none : (count at : ℕ) (x : List ℕ) → bytes_eq x (codes "go") ≡ false → leb most count ≡ false → fact_of x ≡ None → Refuses (script_from count at) at x
script_none count at x e in_time none = record { always = λ others some. rw (some_left (length others) some, e, in_time, none) refl }

go_next : (count at : ℕ) (x : List ℕ) (others : List (List ℕ)) → 0 < length others → bytes_eq x (codes "go") ≡ true
    → script_from count at (x ∷ others) ≡ nodes_from count (at + 1) others
go_next count at x others some e = rw (some_left (length others) some, e) refl

script_stop : (count at : ℕ) (parts : List (List ℕ)) (stop : ℕ) → 0 < length parts → script_from count at parts ≡ Err stop
    → Stops (script_from count at) at parts stop
script_stop count at [] stop some h = absurd (omega arith)
script_stop count at (x ∷ []) stop some h = stops_last (script_from count at) at stop x go_nodes nothing (bad_is {A = ScriptData} at stop h)
    (go_nodes_alone count at)
script_stop count at (x ∷ y ∷ more) stop some h =
    let next : Fact → Result ScriptData ℕ = λ f. within (with_fact f) (script_from (count + 1) (at + 1) (y ∷ more)) in
    let tried : Result ScriptData ℕ = cond (leb most count) (Err at) (or_bad at (fact_of x) next) in
    elim (one_of (bytes_eq x (codes "go")) (nodes_from count (at + 1) (y ∷ more)) tried (Err stop) (rw (some_left (length (y ∷ more)) (omega arith)) at h)) [
      | inl go ↦
          let rest = nodes_stop count (at + 1) (y ∷ more) stop (omega arith) go.1 in
          stops_later (script_from count at) (nodes_from count (at + 1)) (λ r. r) at stop x (y ∷ more) (λ others left. go_next count at x others left go.0)
          (λ b. (b, refl)) (λ r a e. (a, e)) rest
      | inr other ↦
          elim (one_of (leb most count) (Err at) (or_bad at (fact_of x) next) (Err stop) other.1) [
            | inl late ↦ stops_here (script_from count at) at stop x (y ∷ more) go_nodes nothing (bad_is {A = ScriptData} at stop late.1)
                (go_nodes_alone count at) (script_past count at x other.0 late.0)
            | inr time ↦
                elim (found (fact_of x)) [
                  | inl none ↦
                      stops_here (script_from count at) at stop x (y ∷ more) go_nodes nothing (bad_is {A = ScriptData} at stop (rw none at time.1))
                      (go_nodes_alone count at)
                      (script_none count at x other.0 time.0 none)
                  | inr one ↦
                      let rest = script_stop (count + 1) (at + 1) (y ∷ more) stop (omega arith)
                      (within_bad (with_fact one.0) (script_from (count + 1) (at + 1) (y ∷ more)) stop (rw one.1 at time.1)) in
                      let lt : count < most = room_is most count time.0 in
                      stops_later (script_from count at) (script_from (count + 1) (at + 1)) (within (with_fact one.0)) at stop x (y ∷ more)
                      (λ others left. script_next count at x others one.0 left lt one.1) (within_up (with_fact one.0)) (within_down (with_fact one.0)) rest
                ]
          ]
    ]

-- ---- the line of a roster

same_rest : (x y : List ℕ) (xs ys : List (List ℕ)) → x ∷ xs ≡ y ∷ ys → (x ≡ y) × (xs ≡ ys)
same_rest x y xs ys h = (cc, cc)

-- Without the line of a roster a text stops where the reader below it does.
plain_stop : {A : Type 0} (Is : List (List ℕ) → A → Type 0) (read : ℕ → List (List ℕ) → Result A ℕ) → Reader Is read
    → (x here : List ℕ) (rest before after more : List (List ℕ)) (said : A) (stop : ℕ)
    → (0 < length rest → roster_in_line x ≡ None) → x ∷ rest ≡ before ++ here ∷ after → 1 + length before ≡ stop → read 1 (before ++ (more ++ end)) ≡ Ok said
    → (0 < length after → (others : List (List ℕ)) (y : A) → 0 < length others → read 1 (before ++ here ∷ others) ≡ Ok y → ⊥)
    → Stops (opened read) 1 (x ∷ rest) stop
plain_stop Is read r x here rest [] after more said stop quiet all place good bad =
    let same = same_rest x here rest after all in
    let some : 0 < length (more ++ end) = ended more in
    record {
      before = [];
      here = here;
      after = after;
      all = all;
      place = place;
      more = more;
      said = rostered 1 said;
      good = opened_read Is read r (more ++ end) said some good;
      bad = λ behind others y some_others h.
          let long : length rest ≡ length after = ap length same.1 in
          let none : roster_in_line here ≡ None = sym (ap roster_in_line same.0) ∙ quiet (omega arith) in
          let o = within_down (rostered 1) (read 1 (here ∷ others)) y (sym (opened_plain read here others none) ∙ h) in
          bad behind others o.0 some_others o.1;
    }
plain_stop Is read r x here rest (b ∷ bs) after more said stop quiet all place good bad =
    let same = same_rest x b rest (bs ++ here ∷ after) all in
    let long : length rest ≡ length bs + length (here ∷ after) = ap length same.1 ∙ length-append bs (here ∷ after) in
    let none : roster_in_line b ≡ None = sym (ap roster_in_line same.0) ∙ quiet (omega arith) in
    record {
      before = b ∷ bs;
      here = here;
      after = after;
      all = all;
      place = place;
      more = more;
      said = rostered 1 said;
      good = opened_plain read b (bs ++ (more ++ end)) none ∙ ap (within (rostered 1)) good;
      bad = λ behind others y some_others h.
          let o = within_down (rostered 1) (read 1 (b ∷ (bs ++ here ∷ others))) y (sym (opened_plain read b (bs ++ here ∷ others) none) ∙ h) in
          bad behind others o.0 some_others o.1;
    }

opened_stop : {A : Type 0} (Is : List (List ℕ) → A → Type 0) (read : ℕ → List (List ℕ) → Result A ℕ) → Reader Is read
    → ((at : ℕ) (parts : List (List ℕ)) (stop : ℕ) → 0 < length parts → read at parts ≡ Err stop → Stops (read at) at parts stop)
    → (parts : List (List ℕ)) (stop : ℕ) → 0 < length parts → opened read parts ≡ Err stop → Stops (opened read) 1 parts stop
opened_stop Is read r stops [] stop some h = absurd (omega arith)
opened_stop Is read r stops (last ∷ []) stop some h =
    let s = stops 1 (last ∷ []) stop some (within_bad (rostered 1) (read 1 (last ∷ [])) stop (sym (opened_last read last) ∙ h)) in
    plain_stop Is read r last s.here [] s.before s.after s.more s.said stop (λ long. absurd (omega arith)) s.all s.place s.good s.bad
opened_stop Is read r stops (x ∷ y ∷ rest) stop some h =
    elim (found (roster_in_line x)) [
      | inl none ↦
          let s = stops 1 (x ∷ y ∷ rest) stop some (within_bad (rostered 1) (read 1 (x ∷ y ∷ rest)) stop (sym (opened_plain read x (y ∷ rest) none) ∙ h)) in
          plain_stop Is read r x s.here (y ∷ rest) s.before s.after s.more s.said stop (λ long. none) s.all s.place s.good s.bad
      | inr one ↦
          let s = stops 2 (y ∷ rest) stop (omega arith)
          (within_bad (rostered one.0) (read 2 (y ∷ rest)) stop (sym (opened_named read x (y ∷ rest) one.0 (omega arith) one.1) ∙ h)) in
          stops_later (opened read) (read 2) (within (rostered one.0)) 1 stop x (y ∷ rest) (λ others left. opened_named read x others one.0 left one.1)
          (within_up (rostered one.0)) (within_down (rostered one.0)) s
    ]

-- ---- texts

-- a reader that reads just the lines with Is stops at the least bad line
least : {A : Type 0} (Is : List (List ℕ) → A → Type 0) (read : List (List ℕ) → Result A ℕ) (text : List ℕ) (stop : ℕ)
    → ((parts : List (List ℕ)) (x : A) → 0 < length parts → read parts ≡ Ok x → (lines : List (List ℕ)) × (parts ≡ lines ++ end) × Is lines x)
    → ((lines : List (List ℕ)) (x : A) → Is lines x → read (lines ++ end) ≡ Ok x)
    → read (parts_at 10 text) ≡ Err stop → Stops read 1 (parts_at 10 text) stop → IsLeastBadLine Is text stop
least {A} Is read text stop encoded is_read err s =
    let parts : List (List ℕ) = parts_at 10 text in
    let size : length parts ≡ length s.before + length (s.here ∷ s.after) = ap length s.all ∙ length-append s.before (s.here ∷ s.after) in
    let place : 1 + length s.before ≡ stop = s.place in
    let front : length s.before ≡ stop - 1 = omega arith in
    let before_is : take (stop - 1) parts ≡ s.before = rw (← front, s.all) (take-append_seam s.before (s.here ∷ s.after)) in
    let split : s.before ++ s.here ∷ s.after ≡ (s.before ++ s.here ∷ []) ++ s.after = sym (append_assoc s.before (s.here ∷ []) s.after) in
    let one_more : length (s.before ++ s.here ∷ []) ≡ stop = omega (arith, length-append s.before (s.here ∷ [])) in
    let through_is : take stop parts ≡ s.before ++ s.here ∷ [] = rw (← one_more, s.all, split) (take-append_seam (s.before ++ s.here ∷ []) s.after) in
    let whole = encoded (s.before ++ (s.more ++ end)) s.said (omega (arith, length-append s.before (s.more ++ end), ended s.more)) s.good in
    let lines_are : s.before ++ s.more ≡ whole.0 = append_cancel_right (s.before ++ s.more) whole.0 end (append_assoc s.before s.more end ∙ whole.1) in
    let begins : Begins Is s.before = (s.more, s.said, subst (λ (t : List (List ℕ)). Is t s.said) (sym lines_are) whole.2) in
    let no_more : Begins Is (s.before ++ s.here ∷ []) → stop < length parts → ⊥ = λ b within.
    let others : List (List ℕ) = b.0 ++ end in
    let all : ((s.before ++ s.here ∷ []) ++ b.0) ++ end ≡ s.before ++ s.here ∷ others =
    append_assoc (s.before ++ s.here ∷ []) b.0 end ∙ append_assoc s.before (s.here ∷ []) others in
    s.bad (omega arith) others b.1 (ended b.0) (sym (ap read all) ∙ is_read ((s.before ++ s.here ∷ []) ++ b.0) b.1 b.2) in
    record {
      from_one = omega arith;
      within = omega arith;
      before = subst (Begins Is) (sym before_is) begins;
      bad = λ within b. no_more (subst (Begins Is) through_is b) within;
      none = λ x t. refused (read parts) stop x err (ap read t.1 ∙ is_read t.0 x t.2);
    }

least_script_line : (text : List ℕ) (stop : ℕ) → script_of text ≡ Err stop → IsLeastBadLine IsScript text stop
least_script_line text stop h =
    least IsScript (opened (script_from 0)) text stop (rostered_is_encoded AsksSteps (script_from 0) steps_reader)
    (rostered_is_read AsksSteps (script_from 0) steps_reader) h
    (opened_stop AsksSteps (script_from 0) steps_reader (script_stop 0) (parts_at 10 text) stop (some_parts 10 text) h)

least_fact_line : (text : List ℕ) (stop : ℕ) → facts_of text ≡ Err stop → IsLeastBadLine IsLog text stop
least_fact_line text stop h =
    least IsLog (opened (lines_from fact_of 0)) text stop (rostered_is_encoded AreFacts (lines_from fact_of 0) facts_reader)
    (rostered_is_read AreFacts (lines_from fact_of 0) facts_reader) h
    (opened_stop AreFacts (lines_from fact_of 0) facts_reader (lines_stop fact_of 0) (parts_at 10 text) stop (some_parts 10 text) h)

-- lines that begin a good text do so from their own beginning on
begins_before : {A : Type 0} (Is : List (List ℕ) → A → Type 0) (lines : List (List ℕ)) (n m : ℕ) → n ≤ m → Begins Is (take m lines) → Begins Is (take n lines)
begins_before Is lines n m le b =
    let others : List (List ℕ) = take (m - n) (drop n lines) in
    let sum : n + (m - n) ≡ m = omega arith in
    let front : take m lines ≡ take n lines ++ others = ap (λ (k : ℕ). take k lines) (sym sum) ∙ take-add n (m - n) lines in
    let all : take n lines ++ (others ++ b.0) ≡ take m lines ++ b.0 = sym (append_assoc (take n lines) others b.0) ∙ ap (λ (t : List (List ℕ)). t ++ b.0)
    (sym front) in
    (others ++ b.0, b.1, subst (λ (t : List (List ℕ)). Is t b.1) (sym all) b.2)

-- no bad line that is the least is below another
not_below : {A : Type 0} (Is : List (List ℕ) → A → Type 0) (text : List ℕ) (n m : ℕ) → IsLeastBadLine Is text n → IsLeastBadLine Is text m → n < m → ⊥
not_below Is text n m p q lt = p.bad (omega (arith, q.within)) (begins_before Is (parts_at 10 text) n (m - 1) (omega arith) q.before)

apart : (n m : ℕ) → (n < m → ⊥) → (m < n → ⊥) → n ≡ m
apart n m p q = omega (arith, p, q)

-- there is one least bad line
one_line : {A : Type 0} (Is : List (List ℕ) → A → Type 0) (text : List ℕ) (n m : ℕ) → IsLeastBadLine Is text n → IsLeastBadLine Is text m → n ≡ m
one_line Is text n m p q = apart n m (not_below Is text n m p q) (not_below Is text m n q p)

reported : {A : Type 0} (Is : List (List ℕ) → A → Type 0) (text : List ℕ) (stop : ℕ) (r : Result A ℕ) → ((x : A) → r ≡ Ok x → Encodes Is text x)
    → ((n : ℕ) → r ≡ Err n → IsLeastBadLine Is text n) → IsLeastBadLine Is text stop → r ≡ Err stop
reported Is text stop (Ok x) encoded found h = absurd (h.none x (encoded x refl))
reported Is text stop (Err n) encoded found h = ap (λ (k : ℕ). Err k) (one_line Is text n stop (found n refl) h)

pub bad_script_line_is_least : BadScriptLineIsLeast
bad_script_line_is_least text stop = (
  least_script_line text stop,
  reported IsScript text stop (script_of text) (λ s. (scripts_are_encoded text s).0)
      (least_script_line text),
)

pub bad_fact_line_is_least : BadFactLineIsLeast
bad_fact_line_is_least text stop = (
  least_fact_line text stop,
  reported IsLog text stop (facts_of text) (λ log. (logs_are_encoded text log).0)
      (least_fact_line text),
)
