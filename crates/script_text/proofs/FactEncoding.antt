-- Fact lines are read exactly where they are encoded.
use Rattle.std.proofs.Common.{◌≡◌, ℕ, ◌≤◌, inl, inr, eqb, List, [], ◌∷◌, ◌++◌, map, length, Option, Some, None, codes, refl, sym, ap, ◌∙◌, subst, arith, rules}
use Rattle.std.specs.Fmt.{decimal}
use Rattle.std.proofs.lemmas.Bool.Decides.{nat_tests}
use Rattle.redo_core.specs.Data.{RecordData, CutData, AdvanceData, record_with, cut_of, advance_of}
use Rattle.redo_core.specs.Shape.{max_number, max_readers, record_fault, cut_fault, advance_fault}
use Rattle.redo_core.specs.declared.shapes.ShapeFault.{ShapeFault}
use Rattle.redo_core.specs.declared.facts.Fact.{Fact}
use Rattle.redo_core.specs.declared.facts.Fact.TheVariants.{Record, Cut, Advance}
use Rattle.text.specs.Parts.{◌>>=◌, parts_at}
use Rattle.text.specs.Fields.{numbers_of, of_two, of_three, of_five}
use Rattle.script_text.specs.FactLine.{Contents, unless, shaped, contents_of, record_line, cut_line, advance_line, fact_line, fact_of}
use Rattle.script_text.specs.Laws.{FactLinesAreEncoded}
use Rattle.text.specs.Wording.{EncodesForm}
use Rattle.script_text.specs.Encoded.{EncodesRecord, EncodesCut, EncodesAdvance, EncodesFact}
use Rattle.text.proofs.Forms.{AreLimits, AreWithin, two_is, three_is, five_is, numbers_are, numbers_are_read, numbers_lack_space, said_form, form_fields}
use Rattle.text.proofs.Options.{bind_some, either}
use Rattle.text.proofs.Split.{AllLack, parts_joined, joined_parts}
use Rattle.script_text.proofs.PatchEncoding.{contents_are_encoded, contents_are_read, contents_lack_space}

-- ---- what is read is encoded

unless_some : (o : Option ShapeFault) (fact f : Fact) → unless o fact ≡ Some f → (o ≡ None) × (f ≡ fact)
unless_some o fact f h = search rules

shaped_record : (r : RecordData) (f : Fact) → shaped (Record r) ≡ Some f → (record_fault r ≡ None) × (f ≡ Record r)
unfolding shaped
shaped_record r f h = unless_some (record_fault r) (Record r) f h

shaped_cut : (c : CutData) (f : Fact) → shaped (Cut c) ≡ Some f → (cut_fault c ≡ None) × (f ≡ Cut c)
unfolding shaped
shaped_cut c f h = unless_some (cut_fault c) (Cut c) f h

shaped_advance : (a : AdvanceData) (f : Fact) → shaped (Advance a) ≡ Some f → (advance_fault a ≡ None) × (f ≡ Advance a)
unfolding shaped
shaped_advance a f h = unless_some (advance_fault a) (Advance a) f h

abbrev record_limits : List ℕ
record_limits = 65535 ∷ max_number ∷ max_number ∷ 65535 ∷ max_number ∷ []

abbrev cut_limits : List ℕ
cut_limits = 65535 ∷ max_number ∷ max_number ∷ []

abbrev point_limits : List ℕ
point_limits = 65535 ∷ max_number ∷ []

abbrev reader_limits : List ℕ
reader_limits = 65535 ∷ max_number ∷ max_readers ∷ []

record_small : AreLimits record_limits
record_small = (omega arith, (omega arith, (omega arith, (omega arith, (omega arith, tt)))))

cut_small : AreLimits cut_limits
cut_small = (omega arith, (omega arith, (omega arith, tt)))

point_small : AreLimits point_limits
point_small = (omega arith, (omega arith, tt))

reader_small : AreLimits reader_limits
reader_small = (omega arith, (omega arith, (omega arith, tt)))

abbrev made_record : Contents → List ℕ → Option Fact
made_record c numbers = of_five (λ epoch number back page block_back. shaped (Record (record_with epoch number back page block_back c.init c.patches))) numbers

abbrev made_cut : List ℕ → Option Fact
made_cut numbers = of_three (λ epoch lo hi. shaped (Cut (cut_of epoch lo hi))) numbers

abbrev made_advance : List ℕ → Option Fact
made_advance numbers = of_two (λ epoch point. shaped (Advance (advance_of epoch 1 point))) numbers

abbrev made_of_reader : List ℕ → Option Fact
made_of_reader numbers = of_three (λ epoch point reader. shaped (Advance (advance_of epoch reader point))) numbers

record_encoded : (line : List ℕ) (fields : List (List ℕ)) (f : Fact) → parts_at 32 line ≡ codes "rec" ∷ fields → record_line fields ≡ Some f → EncodesFact line f
unfolding record_line
record_encoded line [] f p h = absurd cc
record_encoded line (a ∷ []) f p h = absurd cc
record_encoded line (a ∷ b ∷ []) f p h = absurd cc
record_encoded line (a ∷ b ∷ c ∷ []) f p h = absurd cc
record_encoded line (a ∷ b ∷ c ∷ d ∷ []) f p h = absurd cc
record_encoded line (a ∷ b ∷ c ∷ d ∷ e ∷ []) f p h = absurd cc
record_encoded line (a ∷ b ∷ c ∷ d ∷ e ∷ w ∷ x ∷ rest) f p h = absurd cc
record_encoded line (a ∷ b ∷ c ∷ d ∷ e ∷ w ∷ []) f p h =
    let five : List (List ℕ) = a ∷ b ∷ c ∷ d ∷ e ∷ [] in
    let o1 = bind_some (numbers_of record_limits five) (λ ns. contents_of w >>= (λ k. made_record k ns)) f h in
    let o2 = bind_some (contents_of w) (λ k. made_record k o1.0) f o1.2 in
    let k : Contents = o2.0 in
    let is = five_is (λ epoch number back page block_back. shaped (Record (record_with epoch number back page block_back k.init k.patches))) o1.0 f o2.2 in
    let ns = numbers_are record_limits five o1.0 record_small o1.1 in
    let said : five ≡ map decimal (is.0 ∷ is.1 ∷ is.2 ∷ is.3 ∷ is.4 ∷ []) = ns.0 ∙ ap (map decimal) is.5 in
    let limited : AreWithin (is.0 ∷ is.1 ∷ is.2 ∷ is.3 ∷ is.4 ∷ []) record_limits = subst (λ (t : List ℕ). AreWithin t record_limits) is.5 ns.1 in
    let r : RecordData = record_with is.0 is.1 is.2 is.3 is.4 k.init k.patches in
    let whole = shaped_record r f is.6 in
    let all = parts_joined 32 line _ (p ∙ ap (λ (t : List (List ℕ)). codes "rec" ∷ (t ++ (w ∷ []))) said) in
    let encoded : EncodesRecord line r = record {
      text = w;
      all = all;
      said = contents_are_encoded w k o2.1;
      epoch = limited.0;
      page = limited.1.1.1.0;
      shape = whole.0;
    } in
    subst (EncodesFact line) (sym whole.1) encoded

cut_encoded : (line : List ℕ) (fields : List (List ℕ)) (f : Fact) → parts_at 32 line ≡ codes "cut" ∷ fields → cut_line fields ≡ Some f → EncodesFact line f
unfolding cut_line
cut_encoded line fields f p h =
    let o = bind_some (numbers_of cut_limits fields) made_cut f h in
    let is = three_is (λ epoch lo hi. shaped (Cut (cut_of epoch lo hi))) o.0 f o.2 in
    let s = subst (EncodesForm line (codes "cut") cut_limits) is.3 (said_form line (codes "cut") cut_limits fields o.0 cut_small p o.1) in
    let whole = shaped_cut (cut_of is.0 is.1 is.2) f is.4 in
    let encoded : EncodesCut line (cut_of is.0 is.1 is.2) = record { all = s.all; epoch = s.limited.0; shape = whole.0 } in
    subst (EncodesFact line) (sym whole.1) encoded

advance_encoded : (line : List ℕ) (fields : List (List ℕ)) (f : Fact) → parts_at 32 line ≡ codes "min" ∷ fields → advance_line fields ≡ Some f
    → EncodesFact line f
unfolding advance_line
advance_encoded line fields f p h =
    elim (either (eqb (length fields) 2) (numbers_of point_limits fields >>= made_advance) (numbers_of reader_limits fields >>= made_of_reader) f h) [
      | inl two ↦
          let o = bind_some (numbers_of point_limits fields) made_advance f two.1 in
          let is = two_is (λ epoch point. shaped (Advance (advance_of epoch 1 point))) o.0 f o.2 in
          let s = subst (EncodesForm line (codes "min") point_limits) is.2 (said_form line (codes "min") point_limits fields o.0 point_small p o.1) in
          let whole = shaped_advance (advance_of is.0 1 is.1) f is.3 in
          let encoded : EncodesAdvance line (advance_of is.0 1 is.1) = record { all = inr (refl, s.all); epoch = s.limited.0; shape = whole.0 } in
          subst (EncodesFact line) (sym whole.1) encoded
      | inr three ↦
          let o = bind_some (numbers_of reader_limits fields) made_of_reader f three.1 in
          let is = three_is (λ epoch point reader. shaped (Advance (advance_of epoch reader point))) o.0 f o.2 in
          let s = subst (EncodesForm line (codes "min") reader_limits) is.3 (said_form line (codes "min") reader_limits fields o.0 reader_small p o.1) in
          let whole = shaped_advance (advance_of is.0 is.2 is.1) f is.4 in
          let encoded : EncodesAdvance line (advance_of is.0 is.2 is.1) = record { all = inl s.all; epoch = s.limited.0; shape = whole.0 } in
          subst (EncodesFact line) (sym whole.1) encoded
    ]

fact_encoded : (line : List ℕ) (parts : List (List ℕ)) (f : Fact) → parts_at 32 line ≡ parts → fact_line parts ≡ Some f → EncodesFact line f
unfolding fact_line
fact_encoded line parts f e h = search (rules, record_encoded, cut_encoded, advance_encoded)

-- ---- what is encoded is read

-- the numbers of a shaped fact are in their range
record_numbers : (r : RecordData) → record_fault r ≡ None → (r.number ≤ max_number) × (r.back ≤ max_number) × (r.block_back ≤ max_number)
record_numbers r h = grind (arith, nat_tests)

cut_numbers : (c : CutData) → cut_fault c ≡ None → (c.lo ≤ max_number) × (c.hi ≤ max_number)
cut_numbers c h = grind (arith, nat_tests)

shaped_none : (f : Fact) (o : Option ShapeFault) → o ≡ None → unless o f ≡ Some f
shaped_none f o e = rw e refl

record_fields : (line : List ℕ) (r : RecordData) (s : EncodesRecord line r) → AreWithin (r.epoch ∷ r.number ∷ r.back ∷ r.page ∷ r.block_back ∷ []) record_limits
    → parts_at 32 line ≡ codes "rec" ∷ decimal r.epoch ∷ decimal r.number ∷ decimal r.back ∷ decimal r.page ∷ decimal r.block_back ∷ s.text ∷ []
record_fields line r s h =
    let l : AllLack 32 (map decimal (r.epoch ∷ r.number ∷ r.back ∷ r.page ∷ r.block_back ∷ [])) = numbers_lack_space record_limits
    (r.epoch ∷ r.number ∷ r.back ∷ r.page ∷ r.block_back ∷ []) record_small h in
    let text = contents_lack_space s.text r.init r.patches s.said in
    let all : AllLack 32 (codes "rec" ∷ decimal r.epoch ∷ decimal r.number ∷ decimal r.back ∷ decimal r.page ∷ decimal r.block_back ∷ s.text ∷ []) =
    (refl, (l.0, (l.1.0, (l.1.1.0, (l.1.1.1.0, (l.1.1.1.1.0, (text, tt))))))) in
    ap (parts_at 32) s.all ∙ joined_parts 32 (codes "rec")
    (decimal r.epoch ∷ decimal r.number ∷ decimal r.back ∷ decimal r.page ∷ decimal r.block_back ∷ s.text ∷ []) all

record_is_read : (line : List ℕ) (r : RecordData) → EncodesRecord line r → fact_of line ≡ Some (Record r)
unfolding fact_line record_line shaped
record_is_read line r s =
    let most = record_numbers r s.shape in
    let limited : AreWithin (r.epoch ∷ r.number ∷ r.back ∷ r.page ∷ r.block_back ∷ []) record_limits = (s.epoch, (most.0, (most.1, (s.page, (most.2, tt))))) in
    let n = numbers_are_read record_limits (r.epoch ∷ r.number ∷ r.back ∷ r.page ∷ r.block_back ∷ []) record_small limited in
    let k = contents_are_read s.text r.init r.patches s.said in
    let read : Option (List ℕ) → Option Fact = λ o. o >>= (λ ns. contents_of s.text >>= (λ c. made_record c ns)) in
    let made : Option Contents → Option Fact = λ o. o >>= (λ c. made_record c (r.epoch ∷ r.number ∷ r.back ∷ r.page ∷ r.block_back ∷ [])) in
    ap fact_line (record_fields line r s limited) ∙ ap read n ∙ ap made k ∙ shaped_none (Record r) (record_fault r) s.shape

cut_is_read : (line : List ℕ) (c : CutData) → EncodesCut line c → fact_of line ≡ Some (Cut c)
unfolding fact_line cut_line shaped
cut_is_read line c s =
    let most = cut_numbers c s.shape in
    let form : EncodesForm line (codes "cut") cut_limits (c.epoch ∷ c.lo ∷ c.hi ∷ []) = record { all = s.all; limited = (s.epoch, (most.0, (most.1, tt))) } in
    let f = form_fields line (codes "cut") cut_limits (c.epoch ∷ c.lo ∷ c.hi ∷ []) cut_small form refl in
    ap fact_line f.fields ∙ ap (λ (o : Option (List ℕ)). o >>= made_cut) f.numbers ∙ shaped_none (Cut c) (cut_fault c) s.shape

point_is_read : (line : List ℕ) (a : AdvanceData) → a.reader ≡ 1 → EncodesForm line (codes "min") point_limits (a.epoch ∷ a.point ∷ []) → advance_fault a ≡ None
    → fact_of line ≡ Some (Advance a)
unfolding fact_line advance_line shaped
point_is_read line a one form shape =
    let f = form_fields line (codes "min") point_limits (a.epoch ∷ a.point ∷ []) point_small form refl in
    let same : advance_of a.epoch 1 a.point ≡ a = ap (λ (n : ℕ). advance_of a.epoch n a.point) (sym one) in
    let sound : unless (advance_fault (advance_of a.epoch 1 a.point)) (Advance (advance_of a.epoch 1 a.point)) ≡ Some (Advance a) =
    ap (λ (b : AdvanceData). unless (advance_fault b) (Advance b)) same ∙ shaped_none (Advance a) (advance_fault a) shape in
    ap fact_line f.fields ∙ ap (λ (o : Option (List ℕ)). o >>= made_advance) f.numbers ∙ sound

reader_is_read : (line : List ℕ) (a : AdvanceData) → EncodesForm line (codes "min") reader_limits (a.epoch ∷ a.point ∷ a.reader ∷ []) → advance_fault a ≡ None
    → fact_of line ≡ Some (Advance a)
unfolding fact_line advance_line shaped
reader_is_read line a form shape =
    let f = form_fields line (codes "min") reader_limits (a.epoch ∷ a.point ∷ a.reader ∷ []) reader_small form refl in
    ap fact_line f.fields ∙ ap (λ (o : Option (List ℕ)). o >>= made_of_reader) f.numbers ∙ shaped_none (Advance a) (advance_fault a) shape

advance_is_read : (line : List ℕ) (a : AdvanceData) → EncodesAdvance line a → fact_of line ≡ Some (Advance a)
advance_is_read line a s = search (rules, reader_is_read, point_is_read)

fact_is_read : (line : List ℕ) (f : Fact) → EncodesFact line f → fact_of line ≡ Some f
fact_is_read line (Record r) s = record_is_read line r s
fact_is_read line (Cut c) s = cut_is_read line c s
fact_is_read line (Advance a) s = advance_is_read line a s

pub fact_lines_are_encoded : FactLinesAreEncoded
fact_lines_are_encoded line f = (fact_encoded line (parts_at 32 line) f refl, fact_is_read line f)
