-- Facts: what is read is encoded so, and what is encoded so is read.
use Rattle.std.proofs.Common.{◌≡◌, ℕ, ◌<◌, ◌≤◌, ◌⊎◌, ⊎_elim, Bool, true, false, cond, ltb, leb, eqb, List, [], ◌∷◌, ◌++◌, Ok, None, refl, ap, subst, ◌∙◌, append_assoc, arith, rules}
use Rattle.std.proofs.lemmas.Grind.{common_steps}
use Rattle.std.specs.Prelude.{◌||◌}
use Rattle.std.proofs.lemmas.Bool.{ltb-true, leb-true, le-ltb, eqb-true, ne_eqb}
use Rattle.redo_core.specs.Data.{CutData, AdvanceData, advance_of}
use Rattle.redo_core.specs.Shape.{cut_fault, advance_fault}
use Rattle.redo_core.specs.declared.facts.Fact.{Fact}
use Rattle.redo_core.specs.declared.facts.Fact.TheVariants.{Record, Cut, Advance}
use Rattle.redo_wire.specs.Reading.{Read, shaped, mapped}
use Rattle.redo_wire.specs.Fields.{byte_at, u16_at, u48_at, u16, u48}
use Rattle.redo_wire.specs.Forms.{within_at, form_bytes, byte_in}
use Rattle.redo_wire.specs.Records.{is_full, record_part_bytes}
use Rattle.redo_wire.specs.RecordReading.{record_at}
use Rattle.redo_wire.specs.Facts.{IsWireCut, IsWireAdvance, IsWireFact, is_of_other, cut_bytes, advance_bytes, fact_bytes}
use Rattle.redo_wire.specs.FactReading.{cut_at, advance_at, tagged_advance_at, fact_at}
use Rattle.redo_wire.proofs.Readers.{IsBytes, bind_ok, ok_is, shaped_ok, mapped_ok, Takes, Takes-then, Reads, reads_as}
use Rattle.redo_wire.proofs.FieldReaders.{byte_reads, u16_reads, u48_reads}
use Rattle.redo_wire.proofs.FormReaders.{form_then, IsWithin, within_reads}
use Rattle.redo_wire.proofs.RecordReaders.{record_reads}

-- ---- truncations

cut_takes : (bytes : List ℕ) (x : CutData × List ℕ) → IsBytes bytes → cut_at bytes ≡ Ok x → Takes bytes (cut_bytes x.0) x.1 × IsWireCut x.0
unfolding cut_at
cut_takes bytes x fits e =
    let a0 = bind_ok (shaped (λ n. ltb 0 n) (u16_at bytes)) _ x e in
    let a1 = bind_ok (u48_at a0.0.1) _ x a0.2 in
    let a2 = bind_ok (shaped (λ h. leb a1.0.0 h) (u48_at a1.0.1)) _ x a1.2 in
    let s0 = shaped_ok (λ n. ltb 0 n) (u16_at bytes) a0.0 a0.1 in
    let s2 = shaped_ok (λ h. leb a1.0.0 h) (u48_at a1.0.1) a2.0 a2.1 in
    let t0 = u16_reads.takes bytes a0.0 fits s0.0 in
    let t1 = u48_reads.takes a0.0.1 a1.0 t0.0.rest_fits a1.1 in
    let t2 = u48_reads.takes a1.0.1 a2.0 t1.0.rest_fits s2.0 in
    let e1 = Takes-then bytes (u16 a0.0.0) a0.0.1 (u48 a1.0.0) a1.0.1 t0.0 t1.0 in
    let e2 = Takes-then bytes (u16 a0.0.0 ++ u48 a1.0.0) a1.0.1 (u48 a2.0.0) a2.0.1 e1 t2.0 in
    let pos : 0 < a0.0.0 = ltb-true _ _ s0.1 in
    let rises : a1.0.0 ≤ a2.0.0 = leb-true _ _ s2.1 in
    let made : CutData × List ℕ = (record { epoch = a0.0.0; lo = a1.0.0; hi = a2.0.0 }, a2.0.1) in
    let shape : cut_fault made.0 ≡ None = rw (
      ne_eqb a0.0.0 0 (λ e. omega (arith, pos, e)),
      le-ltb a2.0.0 a1.0.0 rises,
      le-ltb 281474976710655 a2.0.0
          (omega (arith, t2.1)),
    ) refl in
    subst (λ (y : CutData × List ℕ). Takes bytes (cut_bytes y.0) y.1 × IsWireCut y.0) (ok_is made x a2.2) (e2, record { epoch = t0.1; shape = shape })

cut_again : (c : CutData) (rest : List ℕ) → IsWireCut c → cut_at (cut_bytes c ++ rest) ≡ Ok (c, rest)
unfolding cut_at
cut_again c rest fits = grind (arith, common_steps, u16_reads, u48_reads)

pub cut_reads : Reads cut_at cut_bytes IsWireCut
cut_reads = record { takes = cut_takes; again = cut_again }

-- ---- advances

-- an advance that may be read in the form for one reader or for several
pub record IsReadAdvance (many : Bool) (least first last : ℕ) (a : AdvanceData) : Type 0 where
  pub later : least ≤ a.epoch
  pub reader : IsWithin many 1 first last a.reader
  pub wire : IsWireAdvance a

pub within_bounds : (many : Bool) (first last r : ℕ) → 1 ≤ first → 1 ≤ last → IsWithin many 1 first last r → (1 ≤ r) × (r ≤ last)
within_bounds many first last r lo hi is = search rules

advance_takes : (many : Bool) (least first last : ℕ) → 1 ≤ first → 1 ≤ last → last ≤ 15 → (bytes : List ℕ) (x : AdvanceData × List ℕ) → IsBytes bytes
    → advance_at many least first last bytes ≡ Ok x → Takes bytes (advance_bytes many x.0) x.1 × IsReadAdvance many least first last x.0
unfolding advance_at
advance_takes many least first last lo one hi bytes x fits e =
    let a0 = bind_ok (shaped (λ e. leb least e) (u16_at bytes)) _ x e in
    let s0 = shaped_ok (λ e. leb least e) (u16_at bytes) a0.0 a0.1 in
    let a1 = bind_ok (within_at many 1 first last a0.0.1) _ x a0.2 in
    let a2 = bind_ok (shaped (λ p. ltb 0 p) (u48_at a1.0.1)) _ x a1.2 in
    let s2 = shaped_ok (λ p. ltb 0 p) (u48_at a1.0.1) a2.0 a2.1 in
    let t0 = u16_reads.takes bytes a0.0 fits s0.0 in
    let t1 = (within_reads many 1 first last).takes a0.0.1 a1.0 t0.0.rest_fits a1.1 in
    let t2 = u48_reads.takes a1.0.1 a2.0 t1.0.rest_fits s2.0 in
    let e1 = Takes-then bytes (u16 a0.0.0) a0.0.1 (byte_in many a1.0.0) a1.0.1 t0.0 t1.0 in
    let e2 = Takes-then bytes (u16 a0.0.0 ++ byte_in many a1.0.0) a1.0.1 (u48 a2.0.0) a2.0.1 e1 t2.0 in
    let pos : 0 < a2.0.0 = ltb-true _ _ s2.1 in
    let bounds = within_bounds many first last a1.0.0 lo one t1.1 in
    let low = bounds.0 in
    let high = bounds.1 in
    let made : AdvanceData × List ℕ = (advance_of a0.0.0 a1.0.0 a2.0.0, a2.0.1) in
    let shape : advance_fault made.0 ≡ None = rw (
      ne_eqb a2.0.0 0 (λ e. omega (arith, pos, e)),
      le-ltb 281474976710655 a2.0.0 (omega (arith, t2.1)),
      ne_eqb a1.0.0 0 (λ e. omega (arith, low, e)),
      le-ltb 15 a1.0.0 (omega (arith, high, hi)),
    ) refl in
    let read : IsReadAdvance many least first last made.0 = record
    { later = leb-true _ _ s0.1; reader = t1.1; wire = record { epoch = t0.1; shape = shape } } in
    subst (λ (y : AdvanceData × List ℕ). Takes bytes (advance_bytes many y.0) y.1 × IsReadAdvance many least first last y.0) (ok_is made x a2.2) (e2, read)

-- the point and the reader of an advance
pub record HasRanges (a : AdvanceData) : Type 0 where
  pub positive : 0 < a.point
  pub point : a.point ≤ 281474976710655
  pub first : 1 ≤ a.reader
  pub last : a.reader ≤ 15

pub ranges : (a : AdvanceData) → IsWireAdvance a → HasRanges a
ranges a wire = search rules

advance_again : (many : Bool) (least first last : ℕ) (a : AdvanceData) (rest : List ℕ) → IsReadAdvance many least first last a
    → advance_at many least first last (advance_bytes many a ++ rest) ≡ Ok (a, rest)
unfolding advance_at
advance_again many least first last a rest fits = grind (arith, common_steps, u16_reads, u48_reads)

pub advance_reads : (many : Bool) (least first last : ℕ) → 1 ≤ first → 1 ≤ last → last ≤ 15
    → Reads (advance_at many least first last) (advance_bytes many) (IsReadAdvance many least first last)
advance_reads many least first last lo one hi = record { takes = advance_takes many least first last lo one hi; again = advance_again many least first last }

-- a number from 2 on is in the second form alone
pub second_is : (many : Bool) (last r : ℕ) → IsWithin many 1 2 last r → ltb 1 r ≡ many
second_is many last r is = search rules

pub within_second : (many : Bool) (last r : ℕ) → 1 ≤ r → r ≤ last → ltb 1 r ≡ many → IsWithin many 1 2 last r
within_second many last r lo hi e = search rules

tagged_advance_reads : Reads tagged_advance_at (λ a. form_bytes 3 5 (is_of_other a) ++ advance_bytes (is_of_other a) a) IsWireAdvance
unfolding tagged_advance_at
tagged_advance_reads =
    form_then 3 5 (λ many. advance_at many 0 2 15) advance_bytes is_of_other IsWireAdvance (λ e. omega (arith, e))
    (λ many. reads_as (advance_at many 0 2 15) (advance_bytes many) (IsReadAdvance many 0 2 15) (λ a. IsWireAdvance a × (is_of_other a ≡ many))
    (advance_reads many 0 2 15 (omega arith) (omega arith) (omega arith))
    (λ a read. (read.wire, second_is many 15 a.reader read.reader))
    (λ a both. let r = ranges a both.0 in record { later = omega arith; reader = within_second many 15 a.reader r.first r.last both.1; wire = both.0 }))

-- ---- facts

chosen : {A : Type 0} (b : Bool) (p q : Read A) (x : A × List ℕ) → cond b p q ≡ Ok x → ((b ≡ true) × (p ≡ Ok x)) ⊎ ((b ≡ false) × (q ≡ Ok x))
chosen b p q x e = search rules

fact_takes : (bytes : List ℕ) (x : Fact × List ℕ) → IsBytes bytes → fact_at bytes ≡ Ok x → Takes bytes (fact_bytes x.0) x.1 × IsWireFact x.0
unfolding fact_at
fact_takes bytes x fits e =
    let a = bind_ok (byte_at bytes) _ x e in
    let t0 = byte_reads.takes bytes a.0 fits a.1 in
    ⊎_elim
    (λ (h : ((eqb a.0.0 1 || eqb a.0.0 6) ≡ true) × (mapped Record (record_at bytes) ≡ Ok x)).
    let m = mapped_ok Record (record_at bytes) x h.1 in
    let t = record_reads.takes bytes (m.0, x.1) fits m.1 in
    subst (λ (f : Fact). Takes bytes (fact_bytes f) x.1 × IsWireFact f) m.2 t)
    (λ (h : ((eqb a.0.0 1 || eqb a.0.0 6) ≡ false) × (cond (eqb a.0.0 2) (mapped Cut (cut_at a.0.1)) (mapped Advance (tagged_advance_at bytes)) ≡ Ok x)).
    ⊎_elim
    (λ (g : (eqb a.0.0 2 ≡ true) × (mapped Cut (cut_at a.0.1) ≡ Ok x)).
    let m = mapped_ok Cut (cut_at a.0.1) x g.1 in
    let t = cut_takes a.0.1 (m.0, x.1) t0.0.rest_fits m.1 in
    let both = Takes-then bytes (a.0.0 ∷ []) a.0.1 (cut_bytes m.0) x.1 t0.0 t.0 in
    let encoded = subst (λ (n : ℕ). Takes bytes ((n ∷ []) ++ cut_bytes m.0) x.1) (eqb-true _ _ g.0) both in
    subst (λ (f : Fact). Takes bytes (fact_bytes f) x.1 × IsWireFact f) m.2 (encoded, t.1))
    (λ (g : (eqb a.0.0 2 ≡ false) × (mapped Advance (tagged_advance_at bytes) ≡ Ok x)).
    let m = mapped_ok Advance (tagged_advance_at bytes) x g.1 in
    let t = tagged_advance_reads.takes bytes (m.0, x.1) fits m.1 in
    subst (λ (f : Fact). Takes bytes (fact_bytes f) x.1 × IsWireFact f) m.2 t)
    (chosen (eqb a.0.0 2) (mapped Cut (cut_at a.0.1)) (mapped Advance (tagged_advance_at bytes)) x h.1))
    (chosen (eqb a.0.0 1 || eqb a.0.0 6) (mapped Record (record_at bytes))
    (cond (eqb a.0.0 2) (mapped Cut (cut_at a.0.1)) (mapped Advance (tagged_advance_at bytes))) x a.2)

record_first : (full : Bool) (text : List ℕ) → fact_at (form_bytes 1 6 full ++ text) ≡ mapped Record (record_at (form_bytes 1 6 full ++ text))
unfolding fact_at
record_first full text = search rules

advance_first : (many : Bool) (text : List ℕ) → fact_at (form_bytes 3 5 many ++ text) ≡ mapped Advance (tagged_advance_at (form_bytes 3 5 many ++ text))
unfolding fact_at
advance_first many text = search rules

cut_first : (text : List ℕ) → fact_at (2 ∷ text) ≡ mapped Cut (cut_at text)
unfolding fact_at
cut_first text = refl

fact_again : (f : Fact) (rest : List ℕ) → IsWireFact f → fact_at (fact_bytes f ++ rest) ≡ Ok (f, rest)
fact_again (Record r) rest fits =
    let regrouped = append_assoc (form_bytes 1 6 (is_full r)) (record_part_bytes (is_full r) r) rest in
    let found = ap (mapped Record) (record_reads.again r rest fits) in
    rw (regrouped, record_first (is_full r) (record_part_bytes (is_full r) r ++ rest), ← regrouped) found
fact_again (Cut c) rest fits = cut_first (cut_bytes c ++ rest) ∙ ap (mapped Cut) (cut_again c rest fits)
fact_again (Advance a) rest fits =
    let regrouped = append_assoc (form_bytes 3 5 (is_of_other a)) (advance_bytes (is_of_other a) a) rest in
    let found = ap (mapped Advance) (tagged_advance_reads.again a rest fits) in
    rw (regrouped, advance_first (is_of_other a) (advance_bytes (is_of_other a) a ++ rest), ← regrouped) found

pub fact_reads : Reads fact_at fact_bytes IsWireFact
fact_reads = record { takes = fact_takes; again = fact_again }
