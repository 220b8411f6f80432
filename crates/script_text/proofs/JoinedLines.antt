-- The lines of a text that is read in blocks: what one block says, and then another.
use Rattle.std.proofs.Common.{◌≡◌, ℕ, ◌+◌, ◌<◌, ◌≤◌, ◌⊎◌, inl, inr, Bool, true, false, cond, eqb, leb, List, [], ◌∷◌, ◌++◌, length, Option, Some, None, Result, Ok, Err, refl, sym, ap, ◌∙◌, subst, arith, append_assoc, length-append}
use Rattle.std.specs.Prelude.{IfErr, IsErrAnd}
use Rattle.std.proofs.lemmas.Bool.Decides.{nat_tests}
use Rattle.text.specs.Parts.{parts_at, IsCutBehind}
use Rattle.text.proofs.Cuts.{parts_around}
use Rattle.text.proofs.Split.{some_parts}
use Rattle.script_text.specs.Script.{most, or_bad, within, lines_from}
use Rattle.script_text.specs.TextReasons.{IsWrongLine, IsReasonFrom, IsExplained}
use Rattle.script_text.specs.Outcome.{Gives, Fails}
use Rattle.script_text.specs.declared.reasons.LineReason.{LineReason}
use Rattle.script_text.specs.declared.reasons.TextReason.{TextReason}
use Rattle.script_text.specs.declared.script.ScriptError.{ScriptError}
use Rattle.script_text.specs.declared.script.ScriptError.TheVariants.{Memory, BadLine}
use Rattle.script_text.proofs.BadLines.{good_none, lines_last}
use Rattle.script_text.proofs.Lines.{with_said, bad_either}
use Rattle.script_text.proofs.Scripts.{last_ok, lines_next}
use Rattle.script_text.proofs.StoppedLines.{explained_more}
use Rattle.script_text.proofs.Results.{end, good, bad, bad_is, not_good, past, one_of, found, or_bad_ok, within_ok, within_bad, some_left, room_is, ended}

-- ---- lines, and others behind them

-- what the others say behind the values of the lines, with the count and the number that follow; or the place of the first bad line
abbrev pub onward : {A : Type 0} → (List ℕ → Option A) → ℕ → ℕ → List (List ℕ) → Result (List A) ℕ → Result (List A) ℕ
onward said count at others (Ok xs) = with_said xs (lines_from said (count + length xs) (at + length xs) others)
onward said count at others (Err stop) = Err stop

with_one_more : {A : Type 0} (x : A) (xs : List A) (r : Result (List A) ℕ) → within (λ ys. x ∷ ys) (with_said xs r) ≡ with_said (x ∷ xs) r
with_one_more x xs (Ok ys) = refl
with_one_more x xs (Err at) = refl

with_none : {A : Type 0} (r : Result (List A) ℕ) → with_said [] r ≡ r
with_none (Ok xs) = refl
with_none (Err at) = refl

onward_next : {A : Type 0} (said : List ℕ → Option A) (count at : ℕ) (x : A) (others : List (List ℕ)) (r : Result (List A) ℕ)
    → within (λ ys. x ∷ ys) (onward said (count + 1) (at + 1) others r) ≡ onward said count at others (within (λ ys. x ∷ ys) r)
onward_next said count at x others (Err stop) = refl
onward_next said count at x others (Ok xs) =
    let next : count + 1 + length xs ≡ count + length (x ∷ xs) = omega arith in
    let place : at + 1 + length xs ≡ at + length (x ∷ xs) = omega arith in
    rw (next, place) (with_one_more x xs (lines_from said (count + length (x ∷ xs)) (at + length (x ∷ xs)) others))

line_onward : {A : Type 0} (said : List ℕ → Option A) (count at : ℕ) (lines others : List (List ℕ)) (late : Bool) (o : Option A)
    → lines_from said (count + 1) (at + 1) (lines ++ others) ≡ onward said (count + 1) (at + 1) others (lines_from said (count + 1) (at + 1) (lines ++ end))
    → cond late (Err at) (or_bad at o (λ x. within (λ xs. x ∷ xs) (lines_from said (count + 1) (at + 1) (lines ++ others))))
    ≡ onward said count at others (cond late (Err at) (or_bad at o (λ x. within (λ xs. x ∷ xs) (lines_from said (count + 1) (at + 1) (lines ++ end)))))
line_onward said count at lines others true o rest = refl
line_onward said count at lines others false None rest = refl
line_onward said count at lines others false (Some x) rest =
    ap (within (λ xs. x ∷ xs)) rest ∙ onward_next said count at x others (lines_from said (count + 1) (at + 1) (lines ++ end))

-- Lines and others behind them are read as the lines by themselves, and then the others.
pub lines_onward : {A : Type 0} (said : List ℕ → Option A) (count at : ℕ) (lines others : List (List ℕ)) → 0 < length others
    → lines_from said count at (lines ++ others) ≡ onward said count at others (lines_from said count at (lines ++ end))
lines_onward said count at [] others some =
    let same : count + 0 ≡ count = omega arith in
    let place : at + 0 ≡ at = omega arith in
    rw (same, place) (sym (with_none (lines_from said count at others)))
lines_onward said count at (l ∷ ls) others some =
    rw (some_left (length (ls ++ others)) (omega (arith, length-append ls others)), some_left (length (ls ++ end)) (ended ls))
    (line_onward said count at ls others (leb most count) (said l) (lines_onward said (count + 1) (at + 1) ls others some))

ok_is : {A : Type 0} (xs ys : List A) → good xs ≡ good ys → xs ≡ ys
ok_is xs ys h = cc

-- a value for each line, and no more than there may be
pub lines_good : {A : Type 0} (said : List ℕ → Option A) (count at : ℕ) (lines : List (List ℕ)) (xs : List A) → count ≤ most
    → lines_from said count at (lines ++ end) ≡ Ok xs → (length xs ≡ length lines) × (count + length xs ≤ most)
lines_good said count at [] xs le h =
    let none : 0 ≡ length xs = ap length (ok_is [] xs h) in
    (omega (arith, none), omega (arith, none))
lines_good {A} said count at (l ∷ ls) xs le h =
    let next : A → Result (List A) ℕ = λ a. within (λ ys. a ∷ ys) (lines_from said (count + 1) (at + 1) (ls ++ end)) in
    let tried = past (leb most count) at (or_bad at (said l) next) xs (rw (some_left (length (ls ++ end)) (ended ls)) at h) in
    let one = or_bad_ok at (said l) next xs tried.1 in
    let rest = within_ok (λ ys. one.0 ∷ ys) (lines_from said (count + 1) (at + 1) (ls ++ end)) xs one.2 in
    let lt : count < most = room_is most count tried.0 in
    let others = lines_good said (count + 1) (at + 1) ls rest.0 (omega arith) rest.1 in
    let long : length xs ≡ length (one.0 ∷ rest.0) = ap length rest.2 in
    (omega (arith, others.0, long), omega (arith, others.1, long))

-- ---- reasons

-- a reason that is true of the lines is true of them and others behind them
pub reason_before : (Why : List ℕ → LineReason → Type 0) (many : TextReason) (count at : ℕ) (lines others : List (List ℕ)) (stop : ℕ) (reason : TextReason)
    → 0 < length others → IsReasonFrom Why many count at (lines ++ end) stop reason → IsReasonFrom Why many count at (lines ++ others) stop reason
reason_before Why many count at [] others stop reason some h = absurd (h.1 refl)
reason_before Why many count at (l ∷ ls) others stop reason some h =
    let either : ((stop ≡ at) × IsWrongLine (Why l) many count reason) ⊎ IsReasonFrom Why many (count + 1) (at + 1) (ls ++ end) stop reason =
    rw (some_left (length (ls ++ end)) (ended ls)) at h in
    rw (some_left (length (ls ++ others)) (omega (arith, length-append ls others)))
    (elim either [
      | inl here ↦ inl here
      | inr later ↦ inr (reason_before Why many (count + 1) (at + 1) ls others stop reason some later)
    ])

-- and so is one that is true of the others
pub reason_behind : (Why : List ℕ → LineReason → Type 0) (many : TextReason) (count at : ℕ) (lines others : List (List ℕ)) (stop : ℕ) (reason : TextReason)
    → 0 < length others → IsReasonFrom Why many (count + length lines) (at + length lines) others stop reason
    → IsReasonFrom Why many count at (lines ++ others) stop reason
reason_behind Why many count at [] others stop reason some h =
    let same : count + 0 ≡ count = omega arith in
    let place : at + 0 ≡ at = omega arith in
    rw (same, place) at h
reason_behind Why many count at (l ∷ ls) others stop reason some h =
    let next : count + length (l ∷ ls) ≡ count + 1 + length ls = omega arith in
    let place : at + length (l ∷ ls) ≡ at + 1 + length ls = omega arith in
    rw (some_left (length (ls ++ others)) (omega (arith, length-append ls others)))
    (inr (reason_behind Why many (count + 1) (at + 1) ls others stop reason some (rw (next, place) at h)))

-- ---- lines behind so many more

wrong_moved : (Why : LineReason → Type 0) (many : TextReason) (count n from : ℕ) (reason : TextReason) → from ≡ count + n → IsWrongLine Why many count reason
    → IsWrongLine Why many from reason
wrong_moved Why many count n from reason f (inl why) = inl why
wrong_moved Why many count n from reason f (inr late) = inr (late.0, omega (arith, late.1))

reason_moved : (Why : List ℕ → LineReason → Type 0) (many : TextReason) (count at n from to : ℕ) (parts : List (List ℕ)) (stop : ℕ) (reason : TextReason)
    → from ≡ count + n → to ≡ at + n → IsReasonFrom Why many count at parts stop reason → IsReasonFrom Why many from to parts (stop + n) reason
reason_moved Why many count at n from to [] stop reason f t h = absurd h
reason_moved Why many count at n from to (x ∷ []) stop reason f t h = (omega (arith, h.0), h.1, h.2)
reason_moved Why many count at n from to (x ∷ y ∷ more) stop reason f t h =
    let left = some_left (length (y ∷ more)) (omega arith) in
    let either : ((stop ≡ at) × IsWrongLine (Why x) many count reason) ⊎ IsReasonFrom Why many (count + 1) (at + 1) (y ∷ more) stop reason = rw left at h in
    rw left (elim either [
      | inl here ↦ inl (omega (arith, here.0), wrong_moved (Why x) many count n from reason f here.1)
      | inr later ↦ inr (reason_moved Why many (count + 1) (at + 1) n (from + 1) (to + 1) (y ∷ more) stop reason (omega arith) (omega arith) later)
    ])

-- ---- one line

late_is : (n m : ℕ) → leb n m ≡ true → n ≤ m
late_is n m e = grind (arith, nat_tests)

is_late : (n m : ℕ) → n ≤ m → leb n m ≡ true
is_late n m le = grind (arith, nat_tests)

bad_place : {A : Type 0} (n m : ℕ) → n ≡ m → bad {A = A} n ≡ bad m
bad_place {A} n m e = ap (λ (k : ℕ). bad {A = A} k) e

line_late : {A : Type 0} (said : List ℕ → Option A) (count at : ℕ) (x : List ℕ) (rest : List (List ℕ)) → 0 < length rest → most ≤ count
    → lines_from said count at (x ∷ rest) ≡ Err at
line_late said count at x rest some late = rw (some_left (length rest) some, is_late most count late) refl

line_bad : {A : Type 0} (said : List ℕ → Option A) (count at : ℕ) (x : List ℕ) (rest : List (List ℕ)) → 0 < length rest → said x ≡ None
    → lines_from said count at (x ∷ rest) ≡ Err at
line_bad said count at x rest some none = rw (some_left (length rest) some, none) (bad_either (leb most count) at)

-- no bad line is before the first line
stop_from : {A : Type 0} (said : List ℕ → Option A) (count at : ℕ) (parts : List (List ℕ)) (stop : ℕ) → lines_from said count at parts ≡ Err stop → at ≤ stop
stop_from {A} said count at [] stop h = absurd (not_good {A = List A} stop [] (sym h))
stop_from {A} said count at (x ∷ []) stop h = omega (arith, lines_last {A = A} x at stop h)
stop_from {A} said count at (x ∷ y ∷ more) stop h =
    let next : A → Result (List A) ℕ = λ a. within (λ xs. a ∷ xs) (lines_from said (count + 1) (at + 1) (y ∷ more)) in
    elim (one_of (leb most count) (Err at) (or_bad at (said x) next) (Err stop) (rw (some_left (length (y ∷ more)) (omega arith)) at h)) [
      | inl late ↦ omega (arith, bad_is {A = List A} at stop late.1)
      | inr time ↦
          elim (found (said x)) [
            | inl none ↦ omega (arith, bad_is {A = List A} at stop (rw none at time.1))
            | inr one ↦ omega (
              arith,
              stop_from said (count + 1) (at + 1) (y ∷ more) stop
                  (within_bad (λ xs. one.0 ∷ xs) (lines_from said (count + 1) (at + 1) (y ∷ more)) stop (rw one.1 at time.1)),
            )
          ]
    ]

-- ---- what lines say behind so many more

last_moved : {A : Type 0} (b : Bool) (at n to stop : ℕ) → to ≡ at + n → cond b (good_none {A = A}) (Err at) ≡ Err stop
    → cond b (good_none {A = A}) (Err to) ≡ Err (stop + n)
last_moved {A} true at n to stop t h = absurd (not_good {A = List A} stop [] (sym h))
last_moved {A} false at n to stop t h = bad_place {A = List A} to (stop + n) (omega (arith, bad_is {A = List A} at stop h))

-- the place of the first bad line, where it is not past the limit
moved_bad : {A : Type 0} (said : List ℕ → Option A) (count at n from to : ℕ) (parts : List (List ℕ)) (stop : ℕ) → from ≡ count + n → to ≡ at + n
    → stop + from ≤ at + most → lines_from said count at parts ≡ Err stop → lines_from said from to parts ≡ Err (stop + n)
moved_bad {A} said count at n from to [] stop f t few h = absurd (not_good {A = List A} stop [] (sym h))
moved_bad {A} said count at n from to (x ∷ []) stop f t few h = last_moved {A = A} (eqb (length x) 0) at n to stop t h
moved_bad {A} said count at n from to (x ∷ y ∷ more) stop f t few h =
    let some : 0 < length (y ∷ more) = omega arith in
    let next : A → Result (List A) ℕ = λ a. within (λ xs. a ∷ xs) (lines_from said (count + 1) (at + 1) (y ∷ more)) in
    elim (one_of (leb most count) (Err at) (or_bad at (said x) next) (Err stop) (rw (some_left (length (y ∷ more)) some) at h)) [
      | inl late ↦
          let same : at ≡ stop = bad_is {A = List A} at stop late.1 in
          let full : most ≤ from = omega (arith, late_is most count late.0) in
          line_late said from to x (y ∷ more) some full ∙ bad_place {A = List A} to (stop + n) (omega arith)
      | inr time ↦
          elim (found (said x)) [
            | inl none ↦
                let same : at ≡ stop = bad_is {A = List A} at stop (rw none at time.1) in
                line_bad said from to x (y ∷ more) some none ∙ bad_place {A = List A} to (stop + n) (omega arith)
            | inr one ↦
                let below = within_bad (λ xs. one.0 ∷ xs) (lines_from said (count + 1) (at + 1) (y ∷ more)) stop (rw one.1 at time.1) in
                let after : at + 1 ≤ stop = stop_from said (count + 1) (at + 1) (y ∷ more) stop below in
                let few_more : from < most = omega arith in
                lines_next said from to x (y ∷ more) one.0 some few_more one.1
                ∙ ap (within (λ xs. one.0 ∷ xs)) (moved_bad said (count + 1) (at + 1) n (from + 1) (to + 1) (y ∷ more) stop (omega arith) (omega arith) (omega arith) below)
          ]
    ]

-- the values, where there are no more than there may be
moved_good : {A : Type 0} (said : List ℕ → Option A) (count at n from to : ℕ) (parts : List (List ℕ)) (xs : List A) → from ≡ count + n → to ≡ at + n
    → from + length xs ≤ most → lines_from said count at parts ≡ Ok xs → lines_from said from to parts ≡ Ok xs
moved_good said count at n from to [] xs f t few h = h
moved_good said count at n from to (x ∷ []) xs f t few h =
    let e = last_ok x at xs h in
    rw (e.0, e.1) refl
moved_good {A} said count at n from to (x ∷ y ∷ more) xs f t few h =
    let some : 0 < length (y ∷ more) = omega arith in
    let next : A → Result (List A) ℕ = λ a. within (λ ys. a ∷ ys) (lines_from said (count + 1) (at + 1) (y ∷ more)) in
    let tried = past (leb most count) at (or_bad at (said x) next) xs (rw (some_left (length (y ∷ more)) some) at h) in
    let one = or_bad_ok at (said x) next xs tried.1 in
    let rest = within_ok (λ ys. one.0 ∷ ys) (lines_from said (count + 1) (at + 1) (y ∷ more)) xs one.2 in
    let long : length xs ≡ length (one.0 ∷ rest.0) = ap length rest.2 in
    let few_more : from < most = omega (arith, long) in
    let others = moved_good said (count + 1) (at + 1) n (from + 1) (to + 1) (y ∷ more) rest.0 (omega arith) (omega arith) (omega (arith, long)) rest.1 in
    lines_next said from to x (y ∷ more) one.0 some few_more one.1 ∙ (ap (within (λ ys. one.0 ∷ ys)) others ∙ sym (ap good rest.2))

-- how far lines are read: to the place of the first bad one, or to that behind the last
abbrev pub reaches : {A : Type 0} → ℕ → Result (List A) ℕ → ℕ
reaches at (Ok xs) = at + length xs
reaches at (Err stop) = stop

reaches_next : {A : Type 0} (x : A) (at : ℕ) (r : Result (List A) ℕ) → reaches at (within (λ xs. x ∷ xs) r) ≡ reaches (at + 1) r
reaches_next x at (Ok xs) = omega arith
reaches_next x at (Err stop) = refl

reaches_none : (A : Type 0) (at : ℕ) → reaches at (good_none {A = A}) ≡ at
reaches_none A at = omega arith

reaches_last : (A : Type 0) (b : Bool) (at : ℕ) → reaches at (cond b (good_none {A = A}) (Err at)) ≡ at
reaches_last A true at = reaches_none A at
reaches_last A false at = refl

-- a reader stops at this line, which is one more than may come
record Full {A : Type 0} (said : List ℕ → Option A) (Why : List ℕ → LineReason → Type 0) (many : TextReason) (count at : ℕ) (parts : List (List ℕ)) (full : ℕ) : Type 0 where
  stops : lines_from said count at parts ≡ Err full
  why : IsReasonFrom Why many count at parts full many

full_here : {A : Type 0} (said : List ℕ → Option A) (Why : List ℕ → LineReason → Type 0) (many : TextReason) (count at : ℕ) (x : List ℕ) (rest : List (List ℕ)) (full : ℕ)
    → 0 < length rest → most ≤ count → full ≡ at → Full said Why many count at (x ∷ rest) full
full_here {A} said Why many count at x rest full some late same =
    let why : IsReasonFrom Why many count at (x ∷ rest) full many = rw (some_left (length rest) some) (inl (same, inr (refl, late))) in
    record { stops = line_late said count at x rest some late ∙ bad_place {A = List A} at full (sym same); why = why }

full_later : {A : Type 0} (said : List ℕ → Option A) (Why : List ℕ → LineReason → Type 0) (many : TextReason) (count at : ℕ) (x : List ℕ) (rest : List (List ℕ)) (full : ℕ) (a : A)
    → 0 < length rest → count < most → said x ≡ Some a → Full said Why many (count + 1) (at + 1) rest full → Full said Why many count at (x ∷ rest) full
full_later {A} said Why many count at x rest full a some few one later =
    let why : IsReasonFrom Why many count at (x ∷ rest) full many = rw (some_left (length rest) some) (inr later.why) in
    record { stops = lines_next said count at x rest a some few one ∙ ap (within (λ xs. a ∷ xs)) later.stops; why = why }

late_or_not : (count : ℕ) → (most ≤ count) ⊎ (count < most)
late_or_not count = grind arith

-- lines that are read farther than the limit
moved_full : {A : Type 0} (said : List ℕ → Option A) (Why : List ℕ → LineReason → Type 0) (many : TextReason) (count at n from to full : ℕ) (parts : List (List ℕ))
    → from ≡ count + n → to ≡ at + n → full + count ≡ at + most → from ≤ most → full < reaches at (lines_from said count at parts) + n
    → Full said Why many from to parts full
moved_full {A} said Why many count at n from to full [] f t is le far = absurd (omega (arith, reaches_none A at))
moved_full {A} said Why many count at n from to full (x ∷ []) f t is le far = absurd (omega (arith, reaches_last A (eqb (length x) 0) at))
moved_full {A} said Why many count at n from to full (x ∷ y ∷ more) f t is le far =
    let some : 0 < length (y ∷ more) = omega arith in
    elim (late_or_not count) [
      | inl late ↦
          let near : full < at + n = subst (λ (r : Result (List A) ℕ). full < reaches at r + n) (line_late said count at x (y ∷ more) some late) far in
          absurd (omega arith)
      | inr few ↦
          elim (found (said x)) [
            | inl none ↦
                let near : full < at + n = subst (λ (r : Result (List A) ℕ). full < reaches at r + n) (line_bad said count at x (y ∷ more) some none) far in
                absurd (omega arith)
            | inr one ↦
                let rest : Result (List A) ℕ = lines_from said (count + 1) (at + 1) (y ∷ more) in
                let on : full < reaches at (within (λ xs. one.0 ∷ xs) rest) + n =
                subst (λ (r : Result (List A) ℕ). full < reaches at r + n) (lines_next said count at x (y ∷ more) one.0 some few one.1) far in
                let farther : full < reaches (at + 1) rest + n = subst (λ (k : ℕ). full < k + n) (reaches_next one.0 at rest) on in
                elim (late_or_not from) [
                  | inl late ↦ full_here said Why many from to x (y ∷ more) full some late (omega arith)
                  | inr time ↦ full_later said Why many from to x (y ∷ more) full one.0 some time one.1
                      (moved_full said Why many (count + 1) (at + 1) n (from + 1) (to + 1) full (y ∷ more) (omega arith) (omega arith) (omega arith) (omega arith) farther)
                ]
          ]
    ]

-- ---- the same of lines that were read as the first

pub good_behind : {A : Type 0} (said : List ℕ → Option A) (at n : ℕ) (parts : List (List ℕ)) (xs : List A) → n + length xs ≤ most
    → lines_from said 0 at parts ≡ Ok xs → lines_from said n (at + n) parts ≡ Ok xs
good_behind said at n parts xs few h = moved_good said 0 at n n (at + n) parts xs (omega arith) refl few h

pub bad_behind : {A : Type 0} (said : List ℕ → Option A) (at n : ℕ) (parts : List (List ℕ)) (stop : ℕ) → stop + n ≤ at + most
    → lines_from said 0 at parts ≡ Err stop → lines_from said n (at + n) parts ≡ Err (stop + n)
bad_behind said at n parts stop few h = moved_bad said 0 at n n (at + n) parts stop (omega arith) refl few h

pub why_behind : (Why : List ℕ → LineReason → Type 0) (many : TextReason) (at n : ℕ) (parts : List (List ℕ)) (stop : ℕ) (reason : TextReason)
    → IsReasonFrom Why many 0 at parts stop reason → IsReasonFrom Why many n (at + n) parts (stop + n) reason
why_behind Why many at n parts stop reason h = reason_moved Why many 0 at n n (at + n) parts stop reason (omega arith) refl h

full_behind : {A : Type 0} (said : List ℕ → Option A) (Why : List ℕ → LineReason → Type 0) (many : TextReason) (at n : ℕ) (parts : List (List ℕ)) (r : Result (List A) ℕ)
    → n ≤ most → lines_from said 0 at parts ≡ r → at + most < reaches at r + n → Full said Why many n (at + n) parts (at + most)
full_behind {A} said Why many at n parts r le is far =
    let on : at + most < reaches at (lines_from said 0 at parts) + n = subst (λ (q : Result (List A) ℕ). at + most < reaches at q + n) (sym is) far in
    moved_full said Why many 0 at n n (at + n) (at + most) parts (omega arith) refl (omega arith) le on

-- values that are too many
pub many_good : {A : Type 0} (said : List ℕ → Option A) (Why : List ℕ → LineReason → Type 0) (many : TextReason) (at n : ℕ) (parts : List (List ℕ)) (xs : List A) → n ≤ most
    → most < n + length xs → lines_from said 0 at parts ≡ Ok xs
    → (lines_from said n (at + n) parts ≡ Err (at + most)) × IsReasonFrom Why many n (at + n) parts (at + most) many
many_good {A} said Why many at n parts xs le far h =
    let on : at + most < at + length xs + n = omega arith in
    let full = full_behind said Why many at n parts (Ok xs) le h on in
    (full.stops, full.why)

-- a bad line past the limit
pub many_bad : {A : Type 0} (said : List ℕ → Option A) (Why : List ℕ → LineReason → Type 0) (many : TextReason) (at n : ℕ) (parts : List (List ℕ)) (stop : ℕ) → n ≤ most
    → at + most < stop + n → lines_from said 0 at parts ≡ Err stop
    → (lines_from said n (at + n) parts ≡ Err (at + most)) × IsReasonFrom Why many n (at + n) parts (at + most) many
many_bad said Why many at n parts stop le far h =
    let full = full_behind said Why many at n parts (Err stop) le h far in
    (full.stops, full.why)

-- ---- texts in two parts, the first of which ends in an LF

record CutLines (text front behind : List ℕ) : Type 0 where
  lines : List (List ℕ)
  before : parts_at 10 front ≡ lines ++ end
  whole : parts_at 10 text ≡ lines ++ parts_at 10 behind
  some : 0 < length (parts_at 10 behind)

cut_lines : (text front behind : List ℕ) → IsCutBehind 10 text front behind → CutLines text front behind
cut_lines text front behind cut =
    let shape : text ≡ cut.before ++ 10 ∷ behind =
    cut.whole ∙ (ap (λ (t : List ℕ). t ++ behind) cut.ends ∙ append_assoc cut.before (10 ∷ []) behind) in
    let first : parts_at 10 front ≡ parts_at 10 cut.before ++ end = ap (parts_at 10) cut.ends ∙ parts_around 10 cut.before [] in
    let both : parts_at 10 text ≡ parts_at 10 cut.before ++ parts_at 10 behind = ap (parts_at 10) shape ∙ parts_around 10 cut.before behind in
    record { lines = parts_at 10 cut.before; before = first; whole = both; some = some_parts 10 behind }

-- a first part with a bad line
pub front_fails : {A : Type 0} (said : List ℕ → Option A) (at : ℕ) (text front behind : List ℕ) (e : ScriptError) → IsCutBehind 10 text front behind
    → Fails e (lines_from said 0 at (parts_at 10 front)) → Fails e (lines_from said 0 at (parts_at 10 text))
front_fails said at text front behind Memory cut h = tt
front_fails said at text front behind (BadLine stop reason) cut h =
    let l = cut_lines text front behind cut in
    let bad : lines_from said 0 at (l.lines ++ end) ≡ Err stop = ap (lines_from said 0 at) (sym l.before) ∙ h in
    ap (lines_from said 0 at) l.whole
    ∙ (lines_onward said 0 at l.lines (parts_at 10 behind) l.some ∙ ap (onward said 0 at (parts_at 10 behind)) bad)

pub front_explained : (Why : List ℕ → LineReason → Type 0) (many : TextReason) (at : ℕ) (text front behind : List ℕ) (e : ScriptError) → IsCutBehind 10 text front behind
    → IsExplained (IsReasonFrom Why many 0 at (parts_at 10 front)) e → IsExplained (IsReasonFrom Why many 0 at (parts_at 10 text)) e
front_explained Why many at text front behind e cut h =
    let l = cut_lines text front behind cut in
    explained_more (IsReasonFrom Why many 0 at (parts_at 10 front)) (IsReasonFrom Why many 0 at (parts_at 10 text)) e
    (λ stop reason why. rw l.whole (reason_before Why many 0 at l.lines (parts_at 10 behind) stop reason l.some (rw l.before at why))) h

-- a first part that was read
pub front_few : {A : Type 0} (said : List ℕ → Option A) (at : ℕ) (text front behind : List ℕ) (xs : List A) → IsCutBehind 10 text front behind
    → lines_from said 0 at (parts_at 10 front) ≡ Ok xs → length xs ≤ most
front_few said at text front behind xs cut h =
    let l = cut_lines text front behind cut in
    let good = lines_good said 0 at l.lines xs (omega arith) (ap (lines_from said 0 at) (sym l.before) ∙ h) in
    omega (arith, good.1)

front_said : {A : Type 0} (said : List ℕ → Option A) (at : ℕ) (text front behind : List ℕ) (xs : List A) → IsCutBehind 10 text front behind
    → lines_from said 0 at (parts_at 10 front) ≡ Ok xs
    → lines_from said 0 at (parts_at 10 text) ≡ with_said xs (lines_from said (length xs) (at + length xs) (parts_at 10 behind))
front_said said at text front behind xs cut h =
    let l = cut_lines text front behind cut in
    let good : lines_from said 0 at (l.lines ++ end) ≡ Ok xs = ap (lines_from said 0 at) (sym l.before) ∙ h in
    let all : lines_from said 0 at (parts_at 10 text) ≡ with_said xs (lines_from said (0 + length xs) (at + length xs) (parts_at 10 behind)) =
    ap (lines_from said 0 at) l.whole
    ∙ (lines_onward said 0 at l.lines (parts_at 10 behind) l.some ∙ ap (onward said 0 at (parts_at 10 behind)) good) in
    let same : 0 + length xs ≡ length xs = omega arith in
    rw same at all

pub behind_fails : {A : Type 0} (said : List ℕ → Option A) (at : ℕ) (text front behind : List ℕ) (xs : List A) (e : ScriptError) → IsCutBehind 10 text front behind
    → lines_from said 0 at (parts_at 10 front) ≡ Ok xs → Fails e (lines_from said (length xs) (at + length xs) (parts_at 10 behind))
    → Fails e (lines_from said 0 at (parts_at 10 text))
behind_fails said at text front behind xs Memory cut h bad = tt
behind_fails said at text front behind xs (BadLine stop reason) cut h bad = front_said said at text front behind xs cut h ∙ ap (with_said xs) bad

pub behind_explained : {A : Type 0} (said : List ℕ → Option A) (Why : List ℕ → LineReason → Type 0) (many : TextReason) (at : ℕ) (text front behind : List ℕ) (xs : List A)
    (e : ScriptError) → IsCutBehind 10 text front behind → lines_from said 0 at (parts_at 10 front) ≡ Ok xs
    → IsExplained (IsReasonFrom Why many (length xs) (at + length xs) (parts_at 10 behind)) e → IsExplained (IsReasonFrom Why many 0 at (parts_at 10 text)) e
behind_explained said Why many at text front behind xs e cut h why =
    let l = cut_lines text front behind cut in
    let good = lines_good said 0 at l.lines xs (omega arith) (ap (lines_from said 0 at) (sym l.before) ∙ h) in
    let same : length xs ≡ 0 + length l.lines = omega (arith, good.0) in
    let place : at + length xs ≡ at + length l.lines = omega (arith, good.0) in
    explained_more (IsReasonFrom Why many (length xs) (at + length xs) (parts_at 10 behind)) (IsReasonFrom Why many 0 at (parts_at 10 text)) e
    (λ stop reason r. rw l.whole (reason_behind Why many 0 at l.lines (parts_at 10 behind) stop reason l.some (rw (place, same) at r))) why

pub both_read : {A : Type 0} (said : List ℕ → Option A) (at : ℕ) (text front behind : List ℕ) (xs ys all : List A) → IsCutBehind 10 text front behind
    → lines_from said 0 at (parts_at 10 front) ≡ Ok xs → lines_from said (length xs) (at + length xs) (parts_at 10 behind) ≡ Ok ys → all ≡ xs ++ ys
    → lines_from said 0 at (parts_at 10 text) ≡ Ok all
both_read said at text front behind xs ys all cut h more joined =
    front_said said at text front behind xs cut h ∙ (ap (with_said xs) more ∙ sym (ap good joined))

-- ---- what a reader returned

pub gives_good : {X Y : Type 0} (view : X → Y) (r : Result X ScriptError) (x : X) (read : Result Y ℕ) → r ≡ Ok x → Gives view r read → read ≡ Ok (view x)
gives_good view r x read was h = rw was at h

pub gives_bad : {X Y : Type 0} (view : X → Y) (r : Result X ScriptError) (e : ScriptError) (read : Result Y ℕ) → r ≡ Err e → Gives view r read → Fails e read
gives_bad view r e read was h = rw was at h

pub bad_explained : {X : Type 0} (Why : ℕ → TextReason → Type 0) (r : Result X ScriptError) (e : ScriptError) → r ≡ Err e → IfErr r (IsExplained Why) → IsExplained Why e
bad_explained Why r e was h = rw was at h

pub gives_same : {X Y : Type 0} (view : X → Y) (r : Result X ScriptError) (one other : Result Y ℕ) → one ≡ other → Gives view r one → Gives view r other
gives_same {X} {Y} view r one other e h = subst (λ (q : Result Y ℕ). Gives view r q) e h

-- an error that is handed on
pub handed_on : {X Y : Type 0} (view : X → Y) (r : Result X ScriptError) (e : ScriptError) (read : Result Y ℕ) → IsErrAnd r (λ y. y ≡ e) → Fails e read → Gives view r read
handed_on view (Ok x) e read is fails = absurd is
handed_on view (Err y) e read is fails = subst (λ (t : ScriptError). Fails t read) (sym is) fails

pub handed_why : {X : Type 0} (Why : ℕ → TextReason → Type 0) (r : Result X ScriptError) (e : ScriptError) → IsErrAnd r (λ y. y ≡ e) → IsExplained Why e → IfErr r (IsExplained Why)
handed_why Why (Ok x) e is why = tt
handed_why Why (Err y) e is why = subst (IsExplained Why) (sym is) why
