-- Fact lines, and what is wrong with them.
use Rattle.std.proofs.Common.{◌≡◌, ◌≢◌, ℕ, ◌<◌, inl, inr, true, false, eqb, List, [], ◌∷◌, length, get_or, take, Option, Some, None, Result, Ok, Err, IfErr, refl, ◌∙◌, arith, rules}
use Rattle.std.proofs.lemmas.Bool.Decides.{nat_tests}
use Rattle.redo_core.specs.Data.{record_with, cut_of, advance_of}
use Rattle.redo_core.specs.Shape.{max_number, max_patches, cut_fault, advance_fault}
use Rattle.redo_core.specs.declared.shapes.ShapeFault.{ShapeFault}
use Rattle.redo_core.specs.declared.facts.Fact.{Fact}
use Rattle.redo_core.specs.declared.facts.Fact.TheVariants.{Record, Cut, Advance}
use Rattle.text.specs.Parts.{◌>>=◌, parts_at}
use Rattle.text.specs.Fields.{numbers_of, of_two, of_three, of_five}
use Rattle.redo_core.specs.declared.records.RecordHead.{RecordHead}
use Rattle.script_text.specs.FactLine.{Contents, contents_of, unless, shaped, head_numbers, record_limits, record_line, cut_line, advance_line, fact_line, fact_of}
use Rattle.text.proofs.Forms.{numbers_apart}
use Rattle.script_text.proofs.RecordContents.{no_record}
use Rattle.script_text.specs.declared.reasons.FactError.{FactError}
use Rattle.script_text.specs.declared.reasons.FactError.TheVariants.{Memory, Bad}
use Rattle.script_text.specs.declared.reasons.NumberFault.{NumberFault}
use Rattle.script_text.specs.declared.reasons.LineReason.{LineReason}
use Rattle.script_text.specs.declared.reasons.LineReason.TheVariants.{CarriageReturn, UnknownWord, FieldCount, AdvanceFieldCount, Field, Zero, PastPage, ManyPatches, Patch, Shape}
use Rattle.script_text.specs.FieldReasons.{IsFaultAt}
use Rattle.script_text.specs.FactReasons.{fault_with, IsRecordReason, IsCutReason, cut_limits, advance_limits, IsFaultyAdvance, IsAdvanceReason, IsFactReason}
use Rattle.script_text.specs.LineReasons.{IfBad}
use Rattle.script_text.proofs.Faults.{number_fault, field_reason}
use Rattle.script_text.proofs.FormLines.{unread_numbers}
use Rattle.script_text.proofs.PatchLists.{patchless_contents, many_contents}

-- ---- shapes

pub unless_fault : (o : Option ShapeFault) (fault : ShapeFault) (fact : Fact) → o ≡ Some fault → unless o fact ≡ None
unless_fault o fault fact e = cc

-- ---- records

then_all : (n : Option (List ℕ)) (o : Option Contents) (make : List ℕ → Contents → Option Fact) → o ≡ None
    → (n >>= λ ns. o >>= λ c. make ns c) ≡ None
then_all n o make e = search rules

-- the record of six fields
abbrev record_by : Option (List ℕ) → Option Contents → Option Fact
record_by numbers contents = numbers >>= λ ns. contents
    >>= λ c. of_five (λ epoch number back page block_back. shaped (Record (record_with epoch number back page block_back c.init c.patches))) ns

six_fields : (fields : List (List ℕ)) → length fields ≡ 6
    → record_line fields ≡ record_by (numbers_of record_limits (take 5 fields)) (contents_of (get_or fields 5 []))
unfolding record_line
six_fields fields e = search rules

other_fields : (fields : List (List ℕ)) → length fields ≢ 6 → record_line fields ≡ None
unfolding record_line
other_fields fields e = search rules

-- where six fields would be no record, there is none
record_none : (fields : List (List ℕ)) → (length fields ≡ 6 → record_by (numbers_of record_limits (take 5 fields)) (contents_of (get_or fields 5 [])) ≡ None)
    → record_line fields ≡ None
record_none fields none = search (rules, six_fields, other_fields)

-- a record of numbers and contents
pub record_made : (fields : List (List ℕ)) (head : RecordHead) (c : Contents) → length fields ≡ 6
    → numbers_of record_limits (take 5 fields) ≡ Some (head_numbers head) → contents_of (get_or fields 5 []) ≡ Some c
    → record_line fields ≡ unless (fault_with head c) (Record (record_with head.epoch head.number head.back head.page head.block_back c.init c.patches))
unfolding shaped
record_made fields head c six numbers encoded = six_fields fields six ∙ rw (numbers, encoded) refl

many_five : (ns : List ℕ) (c : Contents) → max_patches < length c.patches
    → of_five (λ epoch number back page block_back. shaped (Record (record_with epoch number back page block_back c.init c.patches))) ns ≡ None
many_five [] c many = refl
many_five (e ∷ []) c many = refl
many_five (e ∷ n ∷ []) c many = refl
many_five (e ∷ n ∷ b ∷ []) c many = refl
many_five (e ∷ n ∷ b ∷ p ∷ []) c many = refl
many_five (e ∷ n ∷ b ∷ p ∷ k ∷ []) c many = no_record (record { epoch = e; number = n; back = b; page = p; block_back = k }) c.init (Some c.patches) many
many_five (e ∷ n ∷ b ∷ p ∷ k ∷ m ∷ ms) c many = refl

many_none : (n : Option (List ℕ)) (o : Option Contents) → ((c : Contents) → o ≡ Some c → max_patches < length c.patches) → record_by n o ≡ None
many_none n o many = search (rules, many_five)

-- a fault of a number is one of the first five fields
fault_in_front : (fields : List (List ℕ)) (at : ℕ) (fault : NumberFault) → IsFaultAt record_limits fields at fault → length fields ≡ 6
    → numbers_of record_limits (take 5 fields) ≡ None
fault_in_front fields at fault h six = search (rules, number_fault)

pub record_reason : (fields : List (List ℕ)) (reason : LineReason) → IsRecordReason fields reason → record_line fields ≡ None
record_reason fields (FieldCount wanted) h = other_fields fields h.1
record_reason fields (Field at fault) h = record_none fields (λ six. unread_numbers record_limits (take 5 fields) _ (fault_in_front fields at fault h six))
record_reason fields (Shape fault) h = record_made fields h.head h.contents h.many h.numbers h.encoded
    ∙ unless_fault (fault_with h.head h.contents) fault (Record (record_with h.head.epoch h.head.number h.head.back h.head.page h.head.block_back h.contents.init h.contents.patches)) h.faulty
record_reason fields ManyPatches h = record_none fields (λ six. many_none (numbers_of record_limits (take 5 fields)) (contents_of (get_or fields 5 []))
    (λ c e. many_contents (get_or fields 5 []) c h.1 e))
record_reason fields (Patch at fault) h = record_none fields
    (λ six. then_all (numbers_of record_limits (take 5 fields)) (contents_of (get_or fields 5 [])) _ (patchless_contents (get_or fields 5 []) at fault h.1))
record_reason fields CarriageReturn h = absurd h.1.1
record_reason fields UnknownWord h = absurd h.1.1
record_reason fields AdvanceFieldCount h = absurd h.1.1
record_reason fields (Zero at) h = absurd h.1.1
record_reason fields PastPage h = absurd h.1.1

-- ---- truncations and advances

pub cut_reason : (fields : List (List ℕ)) (reason : LineReason) → IsCutReason fields reason → cut_line fields ≡ None
unfolding cut_line shaped
cut_reason fields (Shape fault) h = rw h.numbers (unless_fault (cut_fault (cut_of h.epoch h.lo h.hi)) fault (Cut (cut_of h.epoch h.lo h.hi)) h.faulty)
cut_reason fields (FieldCount wanted) h = unread_numbers cut_limits fields _ (field_reason cut_limits fields (FieldCount wanted) h)
cut_reason fields (Field at fault) h = unread_numbers cut_limits fields _ (field_reason cut_limits fields (Field at fault) h)
cut_reason fields CarriageReturn h = absurd h
cut_reason fields UnknownWord h = absurd h
cut_reason fields AdvanceFieldCount h = absurd h
cut_reason fields (Zero at) h = absurd h
cut_reason fields PastPage h = absurd h
cut_reason fields ManyPatches h = absurd h
cut_reason fields (Patch at fault) h = absurd h

pub two_fields : (fields : List (List ℕ)) → length fields ≡ 2
    → advance_line fields ≡ (numbers_of (65535 ∷ max_number ∷ []) fields >>= of_two (λ epoch point. shaped (Advance (advance_of epoch 1 point))))
unfolding advance_line
two_fields fields two = let is : eqb (length fields) 2 ≡ true = grind (arith, nat_tests, two) in rw is refl

pub three_fields : (fields : List (List ℕ)) → length fields ≢ 2
    → advance_line fields ≡ (numbers_of advance_limits fields >>= of_three (λ epoch point reader. shaped (Advance (advance_of epoch reader point))))
unfolding advance_line
three_fields fields other = let is : eqb (length fields) 2 ≡ false = grind (arith, nat_tests, other) in rw is refl

-- numbers are as many as their limits
pub many_numbers : (limits : List ℕ) (fields : List (List ℕ)) (ns : List ℕ) → numbers_of limits fields ≡ Some ns → length fields ≡ length limits
many_numbers limits fields ns e = search (rules, numbers_apart)

pub advance_two : (fields : List (List ℕ)) (epoch point : ℕ) → numbers_of (65535 ∷ max_number ∷ []) fields ≡ Some (epoch ∷ point ∷ [])
    → advance_line fields ≡ unless (advance_fault (advance_of epoch 1 point)) (Advance (advance_of epoch 1 point))
unfolding shaped
advance_two fields epoch point e = two_fields fields (many_numbers (65535 ∷ max_number ∷ []) fields (epoch ∷ point ∷ []) e) ∙ rw e refl

pub advance_three : (fields : List (List ℕ)) (epoch point reader : ℕ) → numbers_of advance_limits fields ≡ Some (epoch ∷ point ∷ reader ∷ [])
    → advance_line fields ≡ unless (advance_fault (advance_of epoch reader point)) (Advance (advance_of epoch reader point))
unfolding shaped
advance_three fields epoch point reader e = search (rules, three_fields)

faulty_field : (fields : List (List ℕ)) (at : ℕ) (fault : NumberFault) → IsFaultAt advance_limits fields at fault → advance_line fields ≡ None
faulty_field fields at fault h = search (rules, two_fields, number_fault, three_fields)

faulty_advance : (fields : List (List ℕ)) (fault : ShapeFault) → IsFaultyAdvance fields fault → advance_line fields ≡ None
faulty_advance fields fault h =
    let none = unless_fault (advance_fault (advance_of h.epoch h.reader h.point)) fault (Advance (advance_of h.epoch h.reader h.point)) h.faulty in
    elim h.numbers [
      | inl two ↦ advance_two fields h.epoch h.point two.0 ∙ rw two.1 at none
      | inr three ↦ advance_three fields h.epoch h.point h.reader three ∙ none
    ]

pub advance_reason : (fields : List (List ℕ)) (reason : LineReason) → IsAdvanceReason fields reason → advance_line fields ≡ None
advance_reason fields reason h = search (rules, three_fields, faulty_field, faulty_advance)

-- ---- by the word

pub fact_reason : (fields : List (List ℕ)) (reason : LineReason) → IsFactReason fields reason → fact_line fields ≡ None
unfolding fact_line
fact_reason fields reason h = search (rules, record_reason, cut_reason, advance_reason)

pub none_if_bad : (line : List ℕ) (r : Result Fact FactError) → IfErr r (IfBad (IsFactReason (parts_at 32 line))) → IfErr r (IfBad (λ _. fact_of line ≡ None))
none_if_bad line (Ok fact) h = tt
none_if_bad line (Err Memory) h = tt
none_if_bad line (Err (Bad reason)) h = fact_reason (parts_at 32 line) reason h
