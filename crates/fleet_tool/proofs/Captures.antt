-- The lines of a capture, one after another.
use Rattle.std.proofs.Common.{◌≡◌, ℕ, ◌<◌, eqb, List, [], ◌∷◌, ◌++◌, length, refl, sym, ap, ◌∙◌, append_assoc, length-append, arith, String, string_bytes}
use Rattle.std.specs.Global.{Global}
use Rattle.std.proofs.lemmas.List.{append-nil}
use Rattle.std.proofs.lemmas.List.Splits.{length-slice_split}
use Rattle.text.specs.Parts.{parts_at, IsCutBehind}
use Rattle.text.proofs.Cuts.{parts_around}
use Rattle.fleet_tool.specs.Inspect.{line_text, parts_text, inspected, texts_bytes}

before_others : (line : List ℕ) (others : List (List ℕ)) → 0 < length others → parts_text (line ∷ others) ≡ line_text line ++ parts_text others
before_others line [] some = absurd (omega arith)
before_others line (next ∷ rest) some = refl

next_told : (rest line after : List ℕ) → parts_at 10 rest ≡ line ∷ parts_at 10 after → parts_text (parts_at 10 rest) ≡ line_text line ++ parts_text
    (parts_at 10 after)
next_told rest line after h =
    let some : 0 < length (parts_at 10 after) = omega (arith, length-slice_split (λ b. eqb b 10) after) in
    ap parts_text h ∙ before_others line (parts_at 10 after) some

-- one more line
pub line_told : (old new rest line after all : List ℕ) → parts_at 10 rest ≡ line ∷ parts_at 10 after → new ≡ old ++ line_text line
    → old ++ parts_text (parts_at 10 rest) ≡ all → new ++ parts_text (parts_at 10 after) ≡ all
line_told old new rest line after all h more told =
    let next = next_told rest line after h in
    let joined = append_assoc old (line_text line) (parts_text (parts_at 10 after)) in
    rw more (joined ∙ ap (λ (t : List ℕ). old ++ t) (sym next) ∙ told)

-- ---- blocks

-- lines with an LF each, and others behind them
lines_before : (lines others : List (List ℕ)) → 0 < length others → parts_text (lines ++ others) ≡ parts_text (lines ++ [] ∷ []) ++ parts_text others
lines_before [] others some = refl
lines_before (line ∷ lines) others some =
    let more : 0 < length (lines ++ others) = omega (arith, length-append lines others) in
    let ended : 0 < length (lines ++ [] ∷ []) = omega (arith, length-append lines ([] ∷ [])) in
    before_others line (lines ++ others) more
    ∙ (ap (λ (t : List ℕ). line_text line ++ t) (lines_before lines others some)
    ∙ (sym (append_assoc (line_text line) (parts_text (lines ++ [] ∷ [])) (parts_text others))
    ∙ ap (λ (t : List ℕ). t ++ parts_text others) (sym (before_others line (lines ++ [] ∷ []) ended))))

-- the description of a text with an LF is that of what ends there and that of what is behind it
around : (before behind : List ℕ) → inspected (before ++ 10 ∷ behind) ≡ inspected (before ++ 10 ∷ []) ++ inspected behind
around before behind =
    let some : 0 < length (parts_at 10 behind) = omega (arith, length-slice_split (λ b. eqb b 10) behind) in
    ap parts_text (parts_around 10 before behind)
    ∙ (lines_before (parts_at 10 before) (parts_at 10 behind) some
    ∙ ap (λ (t : List (List ℕ)). parts_text t ++ parts_text (parts_at 10 behind)) (sym (parts_around 10 before [])))

-- the descriptions of the two parts of a text that is cut behind an LF
pub cut_told : (text front behind : List ℕ) → IsCutBehind 10 text front behind → inspected text ≡ inspected front ++ inspected behind
cut_told text front behind cut =
    let shape : text ≡ cut.before ++ 10 ∷ behind =
    cut.whole ∙ (ap (λ (t : List ℕ). t ++ behind) cut.ends ∙ append_assoc cut.before (10 ∷ []) behind) in
    ap inspected shape ∙ (around cut.before behind ∙ ap (λ (t : List ℕ). inspected t ++ inspected behind) (sym cut.ends))

-- ---- texts one after another

pub one_more : (texts : List (String Global)) (last : String Global) → texts_bytes (texts ++ last ∷ []) ≡ texts_bytes texts ++ string_bytes last
one_more [] last = append-nil (string_bytes last)
one_more (text ∷ texts) last = ap (λ (t : List ℕ). string_bytes text ++ t) (one_more texts last) ∙ sym (append_assoc (string_bytes text) (texts_bytes texts) (string_bytes last))

-- the texts of the first part, and then that of the second
pub joined_told : (text front behind : List ℕ) (texts all : List (String Global)) (last : String Global) → IsCutBehind 10 text front behind → texts_bytes texts ≡ inspected front
    → string_bytes last ≡ inspected behind → all ≡ texts ++ last ∷ [] → texts_bytes all ≡ inspected text
joined_told text front behind texts all last cut first second put =
    ap texts_bytes put ∙ (one_more texts last ∙ (ap (λ (t : List ℕ). t ++ string_bytes last) first ∙ (ap (λ (t : List ℕ). inspected front ++ t) second
    ∙ sym (cut_told text front behind cut))))
