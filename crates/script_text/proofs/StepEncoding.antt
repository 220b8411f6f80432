-- Step lines are read exactly where they are encoded.
use Rattle.std.proofs.Common.{◌≡◌, ℕ, ◌+◌, ◌<◌, ◌≤◌, false, cond, eqb, ltb, List, [], ◌∷◌, Option, Some, None, refl, ap, ◌∙◌, subst, arith, rules}
use Rattle.std.specs.List.{AllByRecursion}
use Rattle.std.proofs.lemmas.Bool.Decides.{nat_tests}
use Rattle.script_steps.specs.declared.steps.Step.{Step}
use Rattle.script_steps.specs.declared.steps.Step.TheVariants.{Take, Fold, Discard, Front, Read, Join, Same, Covers, Wipe, Ask, Answer, Absorb}
use Rattle.text.specs.Parts.{◌>>=◌, parts_at}
use Rattle.text.specs.Fields.{of_one, of_two, of_five}
use Rattle.script_text.specs.StepLine.{take, read, take_form, fold_form, discard_form, front_form, read_form, join_form, same_form, covers_form, wipe_form, ask_form, answer_form, absorb_form, message_forms, step_forms, step_line, step_of}
use Rattle.script_text.specs.Script.{most}
use Rattle.script_text.specs.Laws.{StepLinesAreEncoded}
use Rattle.script_text.specs.Encoded.{EncodesStep}
use Rattle.text.proofs.Forms.{Reads, five_is, formed_by, fields_by, read_has}
use Rattle.text.proofs.Options.{here, some_is, tested}

-- ---- what is read is encoded

take_reads : (facts : ℕ) → facts ≤ most → Reads (EncodesStep facts) (take_form facts)
take_reads facts few = search rules

fold_reads : (facts : ℕ) → Reads (EncodesStep facts) fold_form
fold_reads facts = search rules

discard_reads : (facts : ℕ) → Reads (EncodesStep facts) discard_form
discard_reads facts = search rules

front_reads : (facts : ℕ) → Reads (EncodesStep facts) front_form
front_reads facts = search rules

read_reads : (facts : ℕ) → Reads (EncodesStep facts) read_form
read_reads facts = record {
  small = (omega arith, (omega arith, (omega arith, (omega arith, (omega arith, tt)))));
  each = λ line ns s e w h.
      let is = five_is read ns s h in
      let reads : Option (Step ℕ) = here (Read is.0 is.1 is.2 is.3 is.4) in
      let some = tested (eqb is.4 0) (cond (ltb 4096 (is.3 + is.4)) None reads) s is.6 in
      let inside = tested (ltb 4096 (is.3 + is.4)) reads s some.1 in
      let positive : 0 < is.4 = grind (arith, nat_tests, some.0) in
      let fits : is.3 + is.4 ≤ 4096 = grind (arith, nat_tests, inside.0) in
      let encoded : EncodesStep facts line (Read is.0 is.1 is.2 is.3 is.4) =
      (formed_by read_form line ns (is.0 ∷ is.1 ∷ is.2 ∷ is.3 ∷ is.4 ∷ []) is.5 e w, positive, fits) in
      subst (EncodesStep facts line) (some_is (Read is.0 is.1 is.2 is.3 is.4) s inside.1) encoded;
}

join_reads : (facts : ℕ) → Reads (EncodesStep facts) join_form
join_reads facts = search rules

same_reads : (facts : ℕ) → Reads (EncodesStep facts) same_form
same_reads facts = search rules

covers_reads : (facts : ℕ) → Reads (EncodesStep facts) covers_form
covers_reads facts = search rules

wipe_reads : (facts : ℕ) → Reads (EncodesStep facts) wipe_form
wipe_reads facts = search rules

ask_reads : (facts : ℕ) → Reads (EncodesStep facts) ask_form
ask_reads facts = search rules

answer_reads : (facts : ℕ) → Reads (EncodesStep facts) answer_form
answer_reads facts = search rules

absorb_reads : (facts : ℕ) → Reads (EncodesStep facts) absorb_form
absorb_reads facts = search rules

step_is_encoded : (facts : ℕ) (line : List ℕ) (s : Step ℕ) → facts ≤ most → step_of facts line ≡ Some s → EncodesStep facts line s
unfolding step_line
step_is_encoded facts line s few h =
    let messages : AllByRecursion (Reads (EncodesStep facts)) message_forms = (ask_reads facts, (answer_reads facts, (absorb_reads facts, tt))) in
    let others : AllByRecursion (Reads (EncodesStep facts)) (join_form ∷ same_form ∷ covers_form ∷ wipe_form ∷ message_forms) =
    (join_reads facts, (same_reads facts, (covers_reads facts, (wipe_reads facts, messages)))) in
    let all : AllByRecursion (Reads (EncodesStep facts)) (step_forms facts) =
    (take_reads facts few, (fold_reads facts, (discard_reads facts, (front_reads facts, (read_reads facts, others))))) in
    read_has (EncodesStep facts) (step_forms facts) line (parts_at 32 line) s all refl h

-- ---- what is encoded is read

step_is_read : (facts : ℕ) (line : List ℕ) (s : Step ℕ) → facts ≤ most → EncodesStep facts line s → step_of facts line ≡ Some s
unfolding step_line
step_is_read facts line (Take node place) few s =
    let f = fields_by (take_form facts) line (node ∷ place ∷ []) (take_reads facts few).small s.0 refl in
    let positive : eqb place 0 ≡ false = grind (arith, nat_tests, s.1) in
    ap (step_line facts) f.fields ∙ ap (λ (o : Option (List ℕ)). o >>= of_two take) f.numbers ∙ rw positive refl
step_is_read facts line (Fold node page) few s =
    let f = fields_by fold_form line (node ∷ page ∷ []) (fold_reads facts).small s refl in
    ap (step_line facts) f.fields ∙ ap (λ (o : Option (List ℕ)). o >>= of_two (λ i g. here (Fold i g))) f.numbers
step_is_read facts line (Discard node) few s =
    let f = fields_by discard_form line (node ∷ []) (discard_reads facts).small s refl in
    ap (step_line facts) f.fields ∙ ap (λ (o : Option (List ℕ)). o >>= of_one (λ i. here (Discard i))) f.numbers
step_is_read facts line (Front node) few s =
    let f = fields_by front_form line (node ∷ []) (front_reads facts).small s refl in
    ap (step_line facts) f.fields ∙ ap (λ (o : Option (List ℕ)). o >>= of_one (λ i. here (Front i))) f.numbers
step_is_read facts line (Read node page point offset len) few s =
    let f = fields_by read_form line (node ∷ page ∷ point ∷ offset ∷ len ∷ []) (read_reads facts).small s.0 refl in
    let positive : eqb len 0 ≡ false = grind (arith, nat_tests, s.1) in
    let fits : ltb 4096 (offset + len) ≡ false = grind (arith, nat_tests, s.2) in
    ap (step_line facts) f.fields ∙ ap (λ (o : Option (List ℕ)). o >>= of_five read) f.numbers ∙ rw (positive, fits) refl
step_is_read facts line (Join node from) few s =
    let f = fields_by join_form line (node ∷ from ∷ []) (join_reads facts).small s refl in
    ap (step_line facts) f.fields ∙ ap (λ (o : Option (List ℕ)). o >>= of_two (λ i j. here (Join i j))) f.numbers
step_is_read facts line (Same node other) few s =
    let f = fields_by same_form line (node ∷ other ∷ []) (same_reads facts).small s refl in
    ap (step_line facts) f.fields ∙ ap (λ (o : Option (List ℕ)). o >>= of_two (λ i j. here (Same i j))) f.numbers
step_is_read facts line (Covers node other) few s =
    let f = fields_by covers_form line (node ∷ other ∷ []) (covers_reads facts).small s refl in
    ap (step_line facts) f.fields ∙ ap (λ (o : Option (List ℕ)). o >>= of_two (λ i j. here (Covers i j))) f.numbers
step_is_read facts line (Wipe node) few s =
    let f = fields_by wipe_form line (node ∷ []) (wipe_reads facts).small s refl in
    ap (step_line facts) f.fields ∙ ap (λ (o : Option (List ℕ)). o >>= of_one (λ i. here (Wipe i))) f.numbers
step_is_read facts line (Ask node) few s =
    let f = fields_by ask_form line (node ∷ []) (ask_reads facts).small s refl in
    ap (step_line facts) f.fields ∙ ap (λ (o : Option (List ℕ)). o >>= of_one (λ i. here (Ask i))) f.numbers
step_is_read facts line (Answer node message) few s =
    let f = fields_by answer_form line (node ∷ message ∷ []) (answer_reads facts).small s refl in
    ap (step_line facts) f.fields ∙ ap (λ (o : Option (List ℕ)). o >>= of_two (λ i m. here (Answer i m))) f.numbers
step_is_read facts line (Absorb node message) few s =
    let f = fields_by absorb_form line (node ∷ message ∷ []) (absorb_reads facts).small s refl in
    ap (step_line facts) f.fields ∙ ap (λ (o : Option (List ℕ)). o >>= of_two (λ i m. here (Absorb i m))) f.numbers

pub step_lines_are_encoded : StepLinesAreEncoded
step_lines_are_encoded facts line s few = (step_is_encoded facts line s few, step_is_read facts line s few)
