-- The line at which a reader stops, and why.
use Rattle.std.proofs.Common.{◌≡◌, ℕ, ◌+◌, inl, inr, List, [], ◌∷◌, ◌++◌, length, true, false, Result, Ok, Err, None, codes, refl, sym, ◌∙◌, ap, arith, length-append}
use Rattle.std.specs.Prelude.{bytes_eq, IfErr}
use Rattle.text.specs.Parts.{parts_at}
use Rattle.text.proofs.Split.{some_parts}
use Rattle.script_text.specs.Script.{nodes_in_line, nodes_from}
use Rattle.script_text.specs.Outcome.{Fails}
use Rattle.script_text.specs.LineReasons.{ExplainsFact}
use Rattle.script_text.specs.TextReasons.{IsLineReason, IsWrongLine, IsBadFact, IsBadNodes, IsReasonFrom, IsNodesReason, IsScriptReason, IsExplained}
use Rattle.script_text.specs.declared.reasons.LineReason.{LineReason}
use Rattle.script_text.specs.declared.reasons.TextReason.{TextReason}
use Rattle.script_text.specs.declared.reasons.TextReason.TheVariants.{ManyFacts, Line}
use Rattle.script_text.specs.declared.script.ScriptError.{ScriptError}
use Rattle.script_text.specs.declared.script.ScriptError.TheVariants.{Memory, BadLine}
use Rattle.script_text.proofs.Results.{some_left}

-- ---- errors

-- what explains an error explains it as part of more
pub explained_more : (Why Other : ℕ → TextReason → Type 0) (e : ScriptError) → ((stop : ℕ) (reason : TextReason) → Why stop reason → Other stop reason)
    → IsExplained Why e → IsExplained Other e
explained_more Why Other Memory more h = tt
explained_more Why Other (BadLine stop reason) more h = more stop reason h

pub result_more : {X : Type 0} (Why Other : ℕ → TextReason → Type 0) (r : Result X ScriptError)
    → ((stop : ℕ) (reason : TextReason) → Why stop reason → Other stop reason) → IfErr r (IsExplained Why) → IfErr r (IsExplained Other)
result_more Why Other (Ok x) more h = tt
result_more Why Other (Err e) more h = explained_more Why Other e more h

-- a reader stops at a line that is wrong by itself
pub stops_line : {Y : Type 0} (Why : LineReason → Type 0) (at : ℕ) (e : ScriptError) (read : Result Y ℕ) → ((reason : LineReason) → Why reason → read ≡ Err at)
    → IsExplained (λ stop reason. (stop ≡ at) × IsLineReason Why reason) e → Fails e read
stops_line Why at Memory read bad h = tt
stops_line Why at (BadLine stop (Line reason)) read bad h = bad reason h.1 ∙ ap (λ (n : ℕ). Err n) (sym h.0)
stops_line Why at (BadLine stop _) read bad h = absurd h.1

-- ---- lines that are read one by one

pub reason_here : (Why : List ℕ → LineReason → Type 0) (many : TextReason) (count at : ℕ) (text line behind : List ℕ) (reason : TextReason)
    → parts_at 10 text ≡ line ∷ parts_at 10 behind → IsWrongLine (Why line) many count reason → IsReasonFrom Why many count at (parts_at 10 text) at reason
reason_here Why many count at text line behind reason e h = rw (e, some_left (length (parts_at 10 behind)) (some_parts 10 behind)) (inl (refl, h))

pub reason_line : (Why : List ℕ → LineReason → Type 0) (many : TextReason) (count at : ℕ) (text line behind : List ℕ) (stop : ℕ) (reason : TextReason)
    → parts_at 10 text ≡ line ∷ parts_at 10 behind → (stop ≡ at) × IsLineReason (Why line) reason → IsReasonFrom Why many count at (parts_at 10 text) stop reason
reason_line Why many count at text line behind stop reason e h =
    rw (e, some_left (length (parts_at 10 behind)) (some_parts 10 behind)) (inl (h.0, inl h.1))

reason_next : (Why : List ℕ → LineReason → Type 0) (many : TextReason) (count at : ℕ) (text line behind : List ℕ) (stop : ℕ) (reason : TextReason)
    → parts_at 10 text ≡ line ∷ parts_at 10 behind → IsReasonFrom Why many (count + 1) (at + 1) (parts_at 10 behind) stop reason
    → IsReasonFrom Why many count at (parts_at 10 text) stop reason
reason_next Why many count at text line behind stop reason e h = rw (e, some_left (length (parts_at 10 behind)) (some_parts 10 behind)) (inr h)

pub reason_onto : {A : Type 0} (Why : List ℕ → LineReason → Type 0) (many : TextReason) (at : ℕ) (front more : List A) (text line behind : List ℕ) (x : A) (stop : ℕ)
    (reason : TextReason) → parts_at 10 text ≡ line ∷ parts_at 10 behind → more ≡ front ++ x ∷ []
    → IsReasonFrom Why many (length more) (at + length more) (parts_at 10 behind) stop reason
    → IsReasonFrom Why many (length front) (at + length front) (parts_at 10 text) stop reason
reason_onto Why many at front more text line behind x stop reason e is h =
    let long : length more ≡ length front + 1 = ap length is ∙ length-append front (x ∷ []) in
    let place : at + length more ≡ at + length front + 1 = omega (arith, long) in
    reason_next Why many (length front) (at + length front) text line behind stop reason e (rw (place, long) at h)

-- ---- the line of the nodes, and the steps

pub nodes_here : (facts at : ℕ) (text line behind : List ℕ) (stop : ℕ) (reason : TextReason) → parts_at 10 text ≡ line ∷ parts_at 10 behind
    → IsBadNodes at line stop reason → IsNodesReason facts at (parts_at 10 text) stop reason
nodes_here facts at text line behind stop reason e h = rw (e, some_left (length (parts_at 10 behind)) (some_parts 10 behind)) (inl h)

pub nodes_bad : (facts at : ℕ) (text line behind : List ℕ) → parts_at 10 text ≡ line ∷ parts_at 10 behind → nodes_in_line line ≡ None
    → nodes_from facts at (parts_at 10 text) ≡ Err at
nodes_bad facts at text line behind e none = rw (e, some_left (length (parts_at 10 behind)) (some_parts 10 behind), none) refl

-- ---- scripts

pub script_go : (count at : ℕ) (text line behind : List ℕ) (stop : ℕ) (reason : TextReason) → parts_at 10 text ≡ line ∷ parts_at 10 behind
    → bytes_eq line (codes "go") ≡ true → IsNodesReason count (at + 1) (parts_at 10 behind) stop reason → IsScriptReason count at (parts_at 10 text) stop reason
script_go count at text line behind stop reason e go h = rw (e, some_left (length (parts_at 10 behind)) (some_parts 10 behind), go) h

pub script_here : (count at : ℕ) (text line behind : List ℕ) (stop : ℕ) (reason : TextReason) → parts_at 10 text ≡ line ∷ parts_at 10 behind
    → bytes_eq line (codes "go") ≡ false → (stop ≡ at) × IsWrongLine (ExplainsFact line) ManyFacts count reason → IsScriptReason count at (parts_at 10 text) stop reason
script_here count at text line behind stop reason e other h = rw (e, some_left (length (parts_at 10 behind)) (some_parts 10 behind), other) (inl h)

pub script_line : (count at : ℕ) (text line behind : List ℕ) (stop : ℕ) (reason : TextReason) → parts_at 10 text ≡ line ∷ parts_at 10 behind
    → bytes_eq line (codes "go") ≡ false → IsBadFact at line stop reason → IsScriptReason count at (parts_at 10 text) stop reason
script_line count at text line behind stop reason e other h = script_here count at text line behind stop reason e other (h.0, inl h.1)

script_later : (count at : ℕ) (text line behind : List ℕ) (stop : ℕ) (reason : TextReason) → parts_at 10 text ≡ line ∷ parts_at 10 behind
    → bytes_eq line (codes "go") ≡ false → IsScriptReason (count + 1) (at + 1) (parts_at 10 behind) stop reason → IsScriptReason count at (parts_at 10 text) stop reason
script_later count at text line behind stop reason e other h = rw (e, some_left (length (parts_at 10 behind)) (some_parts 10 behind), other) (inr h)

pub script_onto : {A : Type 0} (at : ℕ) (front more : List A) (text line behind : List ℕ) (x : A) (stop : ℕ) (reason : TextReason)
    → parts_at 10 text ≡ line ∷ parts_at 10 behind → bytes_eq line (codes "go") ≡ false → more ≡ front ++ x ∷ []
    → IsScriptReason (length more) (at + length more) (parts_at 10 behind) stop reason → IsScriptReason (length front) (at + length front) (parts_at 10 text) stop reason
script_onto at front more text line behind x stop reason e other is h =
    let long : length more ≡ length front + 1 = ap length is ∙ length-append front (x ∷ []) in
    let place : at + length more ≡ at + length front + 1 = omega (arith, long) in
    script_later (length front) (at + length front) text line behind stop reason e other (rw (place, long) at h)

-- ---- below the opening
