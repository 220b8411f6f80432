-- A script in two parts, round its line go.
use Rattle.std.proofs.Common.{◌≡◌, ℕ, ◌+◌, ◌<◌, ◌≤◌, ◌⊎◌, inl, inr, Bool, true, false, cond, not, eqb, leb, List, [], ◌∷◌, ◌++◌, length, Option, Some, None, Result, Ok, Err, codes, refl, sym, ap, ◌∙◌, arith, append_assoc, length-append}
use Rattle.std.specs.Prelude.{bytes_eq}
use Rattle.std.specs.List.{AllByRecursion, join_with_byte, onto_first}
use Rattle.std.proofs.lemmas.Bool.{and_parts}
use Rattle.std.proofs.lemmas.List.{append_cancel_right}
use Rattle.std.proofs.lemmas.List.Splits.{slice_split-cons_yes, slice_split-cons_no}
use Rattle.redo_core.specs.declared.facts.Fact.{Fact}
use Rattle.text.specs.Parts.{parts_at}
use Rattle.text.proofs.Cuts.{parts_around}
use Rattle.text.proofs.Options.{true_is, no_test}
use Rattle.text.proofs.Split.{lacks, some_parts, parts_joined}
use Rattle.script_text.specs.ScriptParts.{IsEnded, IsRoundGo}
use Rattle.script_text.specs.FactLine.{fact_of}
use Rattle.script_text.specs.Script.{ScriptData, most, or_bad, within, with_fact, with_facts, lines_from, nodes_from, script_from}
use Rattle.script_text.specs.TextReasons.{IsWrongLine, IsReasonFrom, IsNodesReason, IsScriptReason, IsExplained}
use Rattle.script_text.specs.LineReasons.{ExplainsFact}
use Rattle.script_text.specs.Outcome.{Fails}
use Rattle.script_text.specs.declared.reasons.TextReason.{TextReason}
use Rattle.script_text.specs.declared.reasons.TextReason.TheVariants.{ManyFacts}
use Rattle.script_text.specs.declared.script.ScriptError.{ScriptError}
use Rattle.script_text.specs.declared.script.ScriptError.TheVariants.{Memory, BadLine}
use Rattle.script_text.proofs.JoinedLines.{lines_good}
use Rattle.script_text.proofs.Results.{end, some_left, ended}
use Rattle.script_text.proofs.Scripts.{script_go}
use Rattle.script_text.proofs.StoppedLines.{explained_more}

-- ---- the place of go

join_more : (c : ℕ) (x : List ℕ) (others : List (List ℕ)) → 0 < length others → join_with_byte c (x ∷ others) ≡ x ++ c ∷ join_with_byte c others
join_more c x [] some = absurd (omega arith)
join_more c x (y ∷ ys) some = refl

-- a text whose first part is this
first_shape : (c : ℕ) (text before behind : List ℕ) → parts_at c text ≡ before ∷ parts_at c behind → text ≡ before ++ c ∷ behind
first_shape c text before behind h =
    parts_joined c text (before ∷ parts_at c behind) h
    ∙ (join_more c before (parts_at c behind) (some_parts c behind) ∙ ap (λ (t : List ℕ). before ++ c ∷ t) (sym (parts_joined c behind (parts_at c behind) refl)))

-- the first part has no separator
first_alone : (c : ℕ) (text before behind : List ℕ) → parts_at c text ≡ before ∷ parts_at c behind → parts_at c before ≡ before ∷ []
first_alone c text before behind h =
    let both : parts_at c before ++ parts_at c behind ≡ (before ∷ []) ++ parts_at c behind =
    sym (parts_around c before behind) ∙ (ap (parts_at c) (sym (first_shape c text before behind h)) ∙ h) in
    append_cancel_right (parts_at c before) (before ∷ []) (parts_at c behind) both

not_none : (b : ℕ) (bs : List ℕ) (ps : List (List ℕ)) → [] ∷ ps ≡ (b ∷ bs) ∷ [] → ⊥
not_none b bs ps h = cc

one_onto : (b : ℕ) (bs : List ℕ) (ps : List (List ℕ)) → 0 < length ps → onto_first b ps ≡ (b ∷ bs) ∷ [] → ps ≡ bs ∷ []
one_onto b bs [] some h = absurd (omega arith)
one_onto b bs (p ∷ ps) some h = cc

lacks_byte : (c b : ℕ) (bs : List ℕ) (t : Bool) → t ≡ eqb b c → (parts_at c bs ≡ bs ∷ [] → lacks c bs ≡ true) → parts_at c (b ∷ bs) ≡ (b ∷ bs) ∷ []
    → lacks c (b ∷ bs) ≡ true
lacks_byte c b bs true is rest h = absurd (not_none b bs (parts_at c bs) (sym (slice_split-cons_yes (λ x. eqb x c) b bs (sym is)) ∙ h))
lacks_byte c b bs false is rest h =
    let others = rest (one_onto b bs (parts_at c bs) (some_parts c bs) (sym (slice_split-cons_no (λ x. eqb x c) b bs (sym is)) ∙ h)) in
    rw (sym is, others) refl

-- a text that is one part has no separator
lacks_alone : (c : ℕ) (text : List ℕ) → parts_at c text ≡ text ∷ [] → lacks c text ≡ true
lacks_alone c [] h = refl
lacks_alone c (b ∷ bs) h = lacks_byte c b bs (eqb b c) refl (λ r. lacks_alone c bs r) h

abbrev LackLines : ℕ → List (List ℕ) → Type 0
LackLines c lines = AllByRecursion (λ line. lacks c line ≡ true) lines

lack_onto : (c b : ℕ) (ps : List (List ℕ)) → not (eqb b c) ≡ true → LackLines c ps → LackLines c (onto_first b ps)
lack_onto c b [] other h = (rw other refl, tt)
lack_onto c b (p ∷ ps) other h = (rw (other, h.0) refl, h.1)

lack_byte : (c d b : ℕ) (bs : List ℕ) (t : Bool) → t ≡ eqb b d → not (eqb b c) ≡ true → LackLines c (parts_at d bs) → LackLines c (parts_at d (b ∷ bs))
lack_byte c d b bs true is other h = rw (slice_split-cons_yes (λ x. eqb x d) b bs (sym is)) (refl, h)
lack_byte c d b bs false is other h = rw (slice_split-cons_no (λ x. eqb x d) b bs (sym is)) (lack_onto c b (parts_at d bs) other h)

-- nor have its lines, if it is cut at another one
lines_lack : (c d : ℕ) (text : List ℕ) → lacks c text ≡ true → LackLines c (parts_at d text)
lines_lack c d [] h = (refl, tt)
lines_lack c d (b ∷ bs) h =
    let parts = and_parts (not (eqb b c)) (lacks c bs) h in
    lack_byte c d b bs (eqb b d) refl parts.0 (lines_lack c d bs parts.1)

true_not_false : false ≡ true → ⊥
true_not_false h = cc

no_go : (line : List ℕ) → lacks 103 line ≡ true → bytes_eq line (codes "go") ≡ false
no_go line h = no_test (bytes_eq line (codes "go")) (λ t. true_not_false (sym (ap (lacks 103) (true_is line (codes "go") t)) ∙ h))

none_go : (lines : List (List ℕ)) → LackLines 103 lines → AllByRecursion (λ line. bytes_eq line (codes "go") ≡ false) lines
none_go [] h = tt
none_go (l ∷ ls) h = (no_go l h.0, none_go ls h.1)

go_line : (behind : List ℕ) → parts_at 10 (103 ∷ 111 ∷ 10 ∷ behind) ≡ codes "go" ∷ parts_at 10 behind
go_line behind = parts_around 10 (103 ∷ 111 ∷ []) behind

lacks_front : (c : ℕ) (front : List ℕ) (others : List ℕ) → lacks c (front ++ others) ≡ true → lacks c front ≡ true
lacks_front c [] others h = refl
lacks_front c (b ∷ bs) others h =
    let parts = and_parts (not (eqb b c)) (lacks c (bs ++ others)) h in
    rw (parts.0, lacks_front c bs others parts.1) refl

-- the first g of a text begins the line go
pub go_found : (text before behind after : List ℕ) → parts_at 103 text ≡ before ∷ parts_at 103 behind → IsEnded before → behind ≡ 111 ∷ 10 ∷ after
    → IsRoundGo text before after
go_found text before behind after parts (inl none) is =
    let shape : text ≡ 103 ∷ 111 ∷ 10 ∷ after =
    first_shape 103 text before behind parts ∙ (ap (λ (t : List ℕ). t ++ 103 ∷ behind) none ∙ ap (λ (t : List ℕ). 103 ∷ t) is) in
    record { lines = []; ended = ap (parts_at 10) none; all = ap (parts_at 10) shape ∙ go_line after; others = tt }
go_found text before behind after parts (inr some) is =
    let front : List ℕ = some.0 in
    let shape : text ≡ front ++ 10 ∷ (103 ∷ 111 ∷ 10 ∷ after) =
    first_shape 103 text before behind parts ∙ (ap (λ (t : List ℕ). t ++ 103 ∷ behind) some.1
    ∙ (append_assoc front (10 ∷ []) (103 ∷ behind) ∙ ap (λ (t : List ℕ). front ++ 10 ∷ 103 ∷ t) is)) in
    let lack : lacks 103 (front ++ 10 ∷ []) ≡ true = ap (lacks 103) (sym some.1) ∙ lacks_alone 103 before (first_alone 103 text before behind parts) in
    let all : parts_at 10 text ≡ parts_at 10 front ++ (codes "go" ∷ parts_at 10 after) =
    ap (parts_at 10) shape ∙ (parts_around 10 front (103 ∷ 111 ∷ 10 ∷ after) ∙ ap (λ (t : List (List ℕ)). parts_at 10 front ++ t) (go_line after)) in
    record {
      lines = parts_at 10 front;
      ended = ap (parts_at 10) some.1 ∙ parts_around 10 front [];
      all = all;
      others = none_go (parts_at 10 front) (lines_lack 103 10 front (lacks_front 103 front (10 ∷ []) lack));
    }

-- ---- facts, go, and others

abbrev AreNoGo : List (List ℕ) → Type 0
AreNoGo lines = AllByRecursion (λ line. bytes_eq line (codes "go") ≡ false) lines

-- what is asked behind go, of the facts before it; or the place of the first bad one
abbrev asked_onward : ℕ → ℕ → List (List ℕ) → Result (List Fact) ℕ → Result ScriptData ℕ
asked_onward count at others (Ok facts) = within (with_facts facts) (nodes_from (count + length facts) (at + length facts + 1) others)
asked_onward count at others (Err stop) = Err stop

with_no_facts : (r : Result ScriptData ℕ) → within (with_facts []) r ≡ r
with_no_facts (Ok s) = refl
with_no_facts (Err stop) = refl

with_one_more : (f : Fact) (facts : List Fact) (r : Result ScriptData ℕ) → within (with_fact f) (within (with_facts facts) r) ≡ within (with_facts (f ∷ facts)) r
with_one_more f facts (Ok s) = refl
with_one_more f facts (Err stop) = refl

asked_next : (count at : ℕ) (f : Fact) (others : List (List ℕ)) (r : Result (List Fact) ℕ)
    → within (with_fact f) (asked_onward (count + 1) (at + 1) others r) ≡ asked_onward count at others (within (λ fs. f ∷ fs) r)
asked_next count at f others (Err stop) = refl
asked_next count at f others (Ok facts) =
    let next : count + 1 + length facts ≡ count + length (f ∷ facts) = omega arith in
    let place : at + 1 + length facts + 1 ≡ at + length (f ∷ facts) + 1 = omega arith in
    rw (next, place) (with_one_more f facts (nodes_from (count + length (f ∷ facts)) (at + length (f ∷ facts) + 1) others))

line_onward : (count at : ℕ) (lines others : List (List ℕ)) (late : Bool) (o : Option Fact)
    → script_from (count + 1) (at + 1) (lines ++ codes "go" ∷ others) ≡ asked_onward (count + 1) (at + 1) others (lines_from fact_of (count + 1) (at + 1) (lines ++ end))
    → cond late (Err at) (or_bad at o (λ f. within (with_fact f) (script_from (count + 1) (at + 1) (lines ++ codes "go" ∷ others))))
    ≡ asked_onward count at others (cond late (Err at) (or_bad at o (λ f. within (λ fs. f ∷ fs) (lines_from fact_of (count + 1) (at + 1) (lines ++ end)))))
line_onward count at lines others true o rest = refl
line_onward count at lines others false None rest = refl
line_onward count at lines others false (Some f) rest =
    ap (within (with_fact f)) rest ∙ asked_next count at f others (lines_from fact_of (count + 1) (at + 1) (lines ++ end))

script_onward : (count at : ℕ) (lines others : List (List ℕ)) → 0 < length others → AreNoGo lines
    → script_from count at (lines ++ codes "go" ∷ others) ≡ asked_onward count at others (lines_from fact_of count at (lines ++ end))
script_onward count at [] others some none =
    let same : count + 0 ≡ count = omega arith in
    let place : at + 0 + 1 ≡ at + 1 = omega arith in
    rw (same, place) (script_go count at others some ∙ sym (with_no_facts (nodes_from count (at + 1) others)))
script_onward count at (l ∷ ls) others some none =
    rw (some_left (length (ls ++ codes "go" ∷ others)) (omega (arith, length-append ls (codes "go" ∷ others))), some_left (length (ls ++ end)) (ended ls), none.0)
    (line_onward count at ls others (leb most count) (fact_of l) (script_onward (count + 1) (at + 1) ls others some none.1))

script_before : (count at : ℕ) (lines others : List (List ℕ)) (stop : ℕ) (reason : TextReason) → 0 < length others → AreNoGo lines
    → IsReasonFrom ExplainsFact ManyFacts count at (lines ++ end) stop reason → IsScriptReason count at (lines ++ codes "go" ∷ others) stop reason
script_before count at [] others stop reason some none h = absurd (h.1 refl)
script_before count at (l ∷ ls) others stop reason some none h =
    let either : ((stop ≡ at) × IsWrongLine (ExplainsFact l) ManyFacts count reason) ⊎ IsReasonFrom ExplainsFact ManyFacts (count + 1) (at + 1) (ls ++ end) stop reason =
    rw (some_left (length (ls ++ end)) (ended ls)) at h in
    rw (some_left (length (ls ++ codes "go" ∷ others)) (omega (arith, length-append ls (codes "go" ∷ others))), none.0)
    (elim either [
      | inl here ↦ inl here
      | inr later ↦ inr (script_before (count + 1) (at + 1) ls others stop reason some none.1 later)
    ])

script_behind : (count at : ℕ) (lines others : List (List ℕ)) (stop : ℕ) (reason : TextReason) → 0 < length others → AreNoGo lines
    → IsNodesReason (count + length lines) (at + length lines + 1) others stop reason → IsScriptReason count at (lines ++ codes "go" ∷ others) stop reason
script_behind count at [] others stop reason some none h =
    let same : count + 0 ≡ count = omega arith in
    let place : at + 0 + 1 ≡ at + 1 = omega arith in
    rw (some_left (length others) some) (rw (same, place) at h)
script_behind count at (l ∷ ls) others stop reason some none h =
    let next : count + length (l ∷ ls) ≡ count + 1 + length ls = omega arith in
    let place : at + length (l ∷ ls) + 1 ≡ at + 1 + length ls + 1 = omega arith in
    rw (some_left (length (ls ++ codes "go" ∷ others)) (omega (arith, length-append ls (codes "go" ∷ others))), none.0)
    (inr (script_behind (count + 1) (at + 1) ls others stop reason some none.1 (rw (next, place) at h)))

-- ---- texts

pub go_fails : (at : ℕ) (text before behind : List ℕ) (e : ScriptError) → IsRoundGo text before behind → Fails e (lines_from fact_of 0 at (parts_at 10 before))
    → Fails e (script_from 0 at (parts_at 10 text))
go_fails at text before behind Memory go h = tt
go_fails at text before behind (BadLine stop reason) go h =
    let bad : lines_from fact_of 0 at (go.lines ++ end) ≡ Err stop = ap (lines_from fact_of 0 at) (sym go.ended) ∙ h in
    ap (script_from 0 at) go.all
    ∙ (script_onward 0 at go.lines (parts_at 10 behind) (some_parts 10 behind) go.others ∙ ap (asked_onward 0 at (parts_at 10 behind)) bad)

pub go_explained : (at : ℕ) (text before behind : List ℕ) (e : ScriptError) → IsRoundGo text before behind
    → IsExplained (IsReasonFrom ExplainsFact ManyFacts 0 at (parts_at 10 before)) e → IsExplained (IsScriptReason 0 at (parts_at 10 text)) e
go_explained at text before behind e go h =
    explained_more (IsReasonFrom ExplainsFact ManyFacts 0 at (parts_at 10 before)) (IsScriptReason 0 at (parts_at 10 text)) e
    (λ stop reason why. rw go.all (script_before 0 at go.lines (parts_at 10 behind) stop reason (some_parts 10 behind) go.others (rw go.ended at why))) h

pub go_few : (at : ℕ) (text before behind : List ℕ) (facts : List Fact) → IsRoundGo text before behind → lines_from fact_of 0 at (parts_at 10 before) ≡ Ok facts
    → length facts ≤ most
go_few at text before behind facts go h =
    let good = lines_good fact_of 0 at go.lines facts (omega arith) (ap (lines_from fact_of 0 at) (sym go.ended) ∙ h) in
    omega (arith, good.1)

-- the facts before go, and what is asked of them
pub go_read : (at : ℕ) (text before behind : List ℕ) (facts : List Fact) → IsRoundGo text before behind → lines_from fact_of 0 at (parts_at 10 before) ≡ Ok facts
    → script_from 0 at (parts_at 10 text) ≡ within (with_facts facts) (nodes_from (length facts) (at + length facts + 1) (parts_at 10 behind))
go_read at text before behind facts go h =
    let good : lines_from fact_of 0 at (go.lines ++ end) ≡ Ok facts = ap (lines_from fact_of 0 at) (sym go.ended) ∙ h in
    let all : script_from 0 at (parts_at 10 text) ≡ within (with_facts facts) (nodes_from (0 + length facts) (at + length facts + 1) (parts_at 10 behind)) =
    ap (script_from 0 at) go.all
    ∙ (script_onward 0 at go.lines (parts_at 10 behind) (some_parts 10 behind) go.others ∙ ap (asked_onward 0 at (parts_at 10 behind)) good) in
    let same : 0 + length facts ≡ length facts = omega arith in
    rw same at all

pub go_why : (at : ℕ) (text before behind : List ℕ) (facts : List Fact) (stop : ℕ) (reason : TextReason) → IsRoundGo text before behind
    → lines_from fact_of 0 at (parts_at 10 before) ≡ Ok facts → IsNodesReason (length facts) (at + length facts + 1) (parts_at 10 behind) stop reason
    → IsScriptReason 0 at (parts_at 10 text) stop reason
go_why at text before behind facts stop reason go h why =
    let good = lines_good fact_of 0 at go.lines facts (omega arith) (ap (lines_from fact_of 0 at) (sym go.ended) ∙ h) in
    let same : length facts ≡ 0 + length go.lines = omega (arith, good.0) in
    let place : at + length facts + 1 ≡ at + length go.lines + 1 = omega (arith, good.0) in
    rw go.all (script_behind 0 at go.lines (parts_at 10 behind) stop reason (some_parts 10 behind) go.others (rw (place, same) at why))
