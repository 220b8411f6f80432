-- The fields of a record's line: its numbers first, and then what stands behind them.
use Rattle.std.proofs.Common.{◌≡◌, ◌≢◌, ℕ, ◌+◌, ◌<◌, inl, inr, List, [], ◌∷◌, length, get_or, take, drop, Option, Some, None, refl, ap, ◌∙◌, subst, arith, rules}
use Rattle.redo_core.specs.Data.{record_with}
use Rattle.redo_core.specs.declared.facts.Fact.{Fact}
use Rattle.redo_core.specs.declared.facts.Fact.TheVariants.{Record}
use Rattle.text.specs.Number.{decimal_value}
use Rattle.text.specs.Parts.{◌>>=◌, parts_at}
use Rattle.text.specs.Fields.{numbers_of, numbers_then, of_five}
use Rattle.text.proofs.Options.{some_is}
use Rattle.text.proofs.Split.{some_parts}
use Rattle.redo_core.specs.declared.records.RecordHead.{RecordHead}
use Rattle.script_text.specs.declared.reasons.LineReason.{LineReason}
use Rattle.script_text.specs.declared.reasons.LineReason.TheVariants.{CarriageReturn, UnknownWord, FieldCount, AdvanceFieldCount, Field, Zero, PastPage, ManyPatches, Patch, Shape}
use Rattle.script_text.specs.FactLine.{Contents, contents_of, shaped, record_of_contents, head_numbers, record_limits, record_line}
use Rattle.script_text.specs.FieldReasons.{HasWrongField, IsWrongField}
use Rattle.script_text.specs.FactReasons.{IsBodyReason, IsRecordReason}
use Rattle.script_text.proofs.Results.{found}
use Rattle.script_text.proofs.Faults.{then_none, wrong_first, wrong_behind}

-- what the numbers and the contents make
abbrev made_with : List ℕ → Option Contents → Option Fact
made_with ns contents = contents
    >>= λ c. of_five (λ epoch number back page block_back. shaped (Record (record_with epoch number back page block_back c.init c.patches))) ns

-- the same of the fields behind the numbers, where there is one
abbrev made_of : List ℕ → List (List ℕ) → Option Fact
made_of ns (text ∷ []) = made_with ns (contents_of text)
made_of ns _ = None

abbrev read_behind : Option (List ℕ × List (List ℕ)) → Option Fact
read_behind found = found >>= λ p. made_of p.0 p.1

record_line_is : (fields : List (List ℕ)) → record_line fields ≡ read_behind (numbers_then record_limits fields)
unfolding record_line
record_line_is fields = search rules

made_is : (head : RecordHead) (o : Option Contents) → made_with (head_numbers head) o ≡ record_of_contents head o
made_is head o = search rules

pub record_is : (head : RecordHead) (fields : List (List ℕ)) (text : List ℕ) → numbers_then record_limits fields ≡ Some (head_numbers head, parts_at 32 text)
    → parts_at 32 text ≡ text ∷ [] → record_line fields ≡ record_of_contents head (contents_of text)
record_is head fields text is one = record_line_is fields ∙ ap read_behind is ∙ ap (made_of (head_numbers head)) one ∙ made_is head (contents_of text)

-- ---- how many fields there are

and_rest : {A B : Type 0} (o : Option A) (f : A → B) (y : B) → (o >>= λ x. Some (f x)) ≡ Some y → (x : A) × (o ≡ Some x) × (f x ≡ y)
and_rest None f y e = absurd cc
and_rest (Some x) f y e = (x, refl, some_is (f x) y e)

-- so many numbers, and the fields behind them
record Behind (limits : List ℕ) (fields : List (List ℕ)) (ns : List ℕ) (rest : List (List ℕ)) : Type 0 where
  many : length fields ≡ length limits + length rest
  numbers : numbers_of limits (take (length limits) fields) ≡ Some ns
  rest_is : drop (length limits) fields ≡ rest

one_behind : (limit n : ℕ) (limits : List ℕ) (word : List ℕ) (words : List (List ℕ)) (ns : List ℕ) (rest : List (List ℕ)) → decimal_value limit word ≡ Some n
    → Behind limits words ns rest → Behind (limit ∷ limits) (word ∷ words) (n ∷ ns) rest
one_behind limit n limits word words ns rest e b = record { many = omega (arith, b.many); numbers = rw (e, b.numbers) refl; rest_is = b.rest_is }

behind : (limits : List ℕ) (fields : List (List ℕ)) (p : List ℕ × List (List ℕ)) → numbers_then limits fields ≡ Some p → Behind limits fields p.0 p.1
behind [] fields p e = subst (λ (q : List ℕ × List (List ℕ)). Behind [] fields q.0 q.1) (some_is ([], fields) p e) (record { many = omega arith; numbers = refl; rest_is = refl })
behind (limit ∷ limits) [] p e = absurd cc
behind (limit ∷ limits) (word ∷ []) p e = absurd cc
behind (limit ∷ limits) (word ∷ next ∷ more) p e =
    elim (found (decimal_value limit word)) [
      | inl none ↦ absurd (cc (rw none at e))
      | inr one ↦
          let others = and_rest (numbers_then limits (next ∷ more)) (λ q. (one.0 ∷ q.0, q.1)) p (rw one.1 at e) in
          subst (λ (q : List ℕ × List (List ℕ)). Behind (limit ∷ limits) (word ∷ next ∷ more) q.0 q.1) others.2
          (one_behind limit one.0 limits word (next ∷ more) others.0.0 others.0.1 one.1 (behind limits (next ∷ more) others.0 others.1))
    ]

-- ---- what is wrong with them

then_wrong : (limits : List ℕ) (fields : List (List ℕ)) → numbers_then limits fields ≡ None → length limits < length fields → HasWrongField limits fields
then_wrong [] fields e lt = absurd cc
then_wrong (limit ∷ limits) [] e lt = absurd (omega arith)
then_wrong (limit ∷ limits) (word ∷ []) e lt = absurd (omega arith)
then_wrong (limit ∷ limits) (word ∷ next ∷ more) e lt =
    elim (found (decimal_value limit word)) [
      | inl none ↦ wrong_first limit limits word (next ∷ more) none
      | inr one ↦
          let none = then_none (numbers_then limits (next ∷ more)) (λ q. (one.0 ∷ q.0, q.1)) (rw one.1 at e) in
          wrong_behind limit limits word (next ∷ more) (then_wrong limits (next ∷ more) none (omega (arith, lt)))
    ]

pub wrong_number : (fields : List (List ℕ)) → numbers_then record_limits fields ≡ None → length fields ≡ 6 → HasWrongField record_limits fields
wrong_number fields e six = then_wrong record_limits fields e (omega (arith, six))

pub number_reason : (fields : List (List ℕ)) (reason : LineReason) → IsWrongField record_limits fields reason → IsRecordReason fields reason
number_reason fields (Field at fault) h = h
number_reason fields CarriageReturn h = absurd h
number_reason fields UnknownWord h = absurd h
number_reason fields (FieldCount wanted) h = absurd h
number_reason fields AdvanceFieldCount h = absurd h
number_reason fields (Zero at) h = absurd h
number_reason fields PastPage h = absurd h
number_reason fields ManyPatches h = absurd h
number_reason fields (Patch at fault) h = absurd h
number_reason fields (Shape fault) h = absurd h

-- the field behind the numbers is not the last
pub more_than_six : (ns : List ℕ) (fields : List (List ℕ)) (text word more : List ℕ) → numbers_then record_limits fields ≡ Some (ns, parts_at 32 text)
    → parts_at 32 text ≡ word ∷ parts_at 32 more → length fields ≢ 6
more_than_six ns fields text word more is parts six =
    let b = behind record_limits fields (ns, parts_at 32 text) is in
    absurd (omega (arith, b.many, six, ap length parts, some_parts 32 more))

-- the sixth field
last_of : (fields : List (List ℕ)) (text : List ℕ) → drop 5 fields ≡ text ∷ [] → get_or fields 5 [] ≡ text
last_of fields text e = search rules

body_at : (head : RecordHead) (fields : List (List ℕ)) (text : List ℕ) (reason : LineReason) → length fields ≡ 6
    → numbers_of record_limits (take 5 fields) ≡ Some (head_numbers head) → get_or fields 5 [] ≡ text → IsBodyReason head text reason → IsRecordReason fields reason
body_at head fields text (Shape fault) six numbers last h =
    record { head = head; contents = h.0; many = six; numbers = numbers; encoded = rw last h.1; faulty = h.2 }
body_at head fields text ManyPatches six numbers last h = (six, rw last h)
body_at head fields text (Patch at fault) six numbers last h = (six, rw last h)
body_at head fields text (FieldCount wanted) six numbers last h = absurd h.1
body_at head fields text (Field at fault) six numbers last h = absurd h.1
body_at head fields text CarriageReturn six numbers last h = absurd h.1
body_at head fields text UnknownWord six numbers last h = absurd h.1
body_at head fields text AdvanceFieldCount six numbers last h = absurd h.1
body_at head fields text (Zero at) six numbers last h = absurd h.1
body_at head fields text PastPage six numbers last h = absurd h.1

pub body_reason : (head : RecordHead) (fields : List (List ℕ)) (text : List ℕ) (reason : LineReason) → numbers_then record_limits fields ≡ Some (head_numbers head, parts_at 32 text)
    → parts_at 32 text ≡ text ∷ [] → IsBodyReason head text reason → IsRecordReason fields reason
body_reason head fields text reason is one h =
    let b = behind record_limits fields (head_numbers head, parts_at 32 text) is in
    let six : length fields ≡ 6 = omega (arith, b.many, ap length one) in
    let last = last_of fields text (b.rest_is ∙ one) in
    body_at head fields text reason six b.numbers last h
