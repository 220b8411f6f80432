-- Records: what is read is encoded so, and what is encoded so is read.
use Rattle.std.proofs.Common.{◌≡◌, ℕ, ◌^◌, ◌<◌, ◌≤◌, ◌⊎◌, Bool, true, false, cond, ltb, leb, eqb, List, [], ◌∷◌, ◌++◌, length, Ok, None, refl, ap, subst, ◌∙◌, append_assoc, arith, rules}
use Rattle.std.proofs.lemmas.Grind.{common_steps}
use Rattle.std.specs.Prelude.{Option, Some, not, ◌||◌}
use Rattle.std.specs.List.{flat_map, list_any}
use Rattle.std.specs.Option.{option_or}
use Rattle.std.proofs.lemmas.Bool.{ltb-true, leb-true, le-leb}
use Rattle.redo_core.specs.Data.{RecordData}
use Rattle.redo_core.specs.Shape.{record_fault}
use Rattle.redo_core.specs.declared.shapes.ShapeFault.{ShapeFault}
use Rattle.redo_core.specs.declared.patches.Patch.{Patch}
use Rattle.redo_core.specs.declared.records.RecordHead.{RecordHead}
use Rattle.redo_wire.specs.Reading.{shaped}
use Rattle.redo_wire.specs.Fields.{byte_at, u16_at, u48_at, u16, u48}
use Rattle.redo_wire.specs.Lists.{each_at}
use Rattle.redo_wire.specs.Forms.{within_at, byte_in}
use Rattle.redo_wire.specs.Records.{IsWireRecord, is_fill, is_full, is_full_body, flags_of, patch_bytes, record_part_bytes, record_bytes}
use Rattle.redo_wire.specs.RecordReading.{patch_at, left_after, head_at, record_from, record_part_at, record_at}
use Rattle.redo_wire.proofs.Readers.{IsBytes, bind_ok, ok_is, shaped_ok, Takes, Takes-then, Reads}
use Rattle.redo_wire.proofs.FieldReaders.{byte_reads, u16_reads, u48_reads}
use Rattle.redo_wire.proofs.FormReaders.{form_then, IsWithin, within_reads}
use Rattle.redo_wire.proofs.ListReaders.{EachFrom, each_takes, each_again}
use Rattle.redo_wire.proofs.PatchReaders.{IsNextPatch, IsListed, patch_reads, from_each, none_filled, to_each}

-- the part of an if-chain that ends with no fault
pub spared : (b : Bool) (f : ShapeFault) (y : Option ShapeFault) → cond b (Some f) y ≡ None → (b ≡ false) × (y ≡ None)
spared b f y e = search rules

-- ---- the fields up to the block backlink

pub record IsHead (h : RecordHead) : Type 0 where
  pub epoch : h.epoch < 2 ^ 16
  pub positive : 0 < h.number
  pub number : h.number < 2 ^ 48
  pub back : h.back < h.number
  pub page : h.page < 2 ^ 16
  pub block_back : h.block_back ≤ h.back

abbrev pub encoded_head : RecordHead → List ℕ
encoded_head h = u16 h.epoch ++ u48 h.number ++ u48 h.back ++ u16 h.page ++ u48 h.block_back

head_takes : (bytes : List ℕ) (x : RecordHead × List ℕ) → IsBytes bytes → head_at bytes ≡ Ok x → Takes bytes (encoded_head x.0) x.1 × IsHead x.0
unfolding head_at
head_takes bytes x fits e =
    let a0 = bind_ok (u16_at bytes) _ x e in
    let a1 = bind_ok (shaped (λ n. ltb 0 n) (u48_at a0.0.1)) _ x a0.2 in
    let s1 = shaped_ok (λ n. ltb 0 n) (u48_at a0.0.1) a1.0 a1.1 in
    let a2 = bind_ok (shaped (λ b. ltb b a1.0.0) (u48_at a1.0.1)) _ x a1.2 in
    let s2 = shaped_ok (λ b. ltb b a1.0.0) (u48_at a1.0.1) a2.0 a2.1 in
    let a3 = bind_ok (u16_at a2.0.1) _ x a2.2 in
    let a4 = bind_ok (shaped (λ b. leb b a2.0.0) (u48_at a3.0.1)) _ x a3.2 in
    let s4 = shaped_ok (λ b. leb b a2.0.0) (u48_at a3.0.1) a4.0 a4.1 in
    let t0 = u16_reads.takes bytes a0.0 fits a0.1 in
    let t1 = u48_reads.takes a0.0.1 a1.0 t0.0.rest_fits s1.0 in
    let t2 = u48_reads.takes a1.0.1 a2.0 t1.0.rest_fits s2.0 in
    let t3 = u16_reads.takes a2.0.1 a3.0 t2.0.rest_fits a3.1 in
    let t4 = u48_reads.takes a3.0.1 a4.0 t3.0.rest_fits s4.0 in
    let e1 = Takes-then bytes (u16 a0.0.0) a0.0.1 (u48 a1.0.0) a1.0.1 t0.0 t1.0 in
    let e2 = Takes-then bytes (u16 a0.0.0 ++ u48 a1.0.0) a1.0.1 (u48 a2.0.0) a2.0.1 e1 t2.0 in
    let e3 = Takes-then bytes (u16 a0.0.0 ++ u48 a1.0.0 ++ u48 a2.0.0) a2.0.1 (u16 a3.0.0) a3.0.1 e2 t3.0 in
    let e4 = Takes-then bytes (u16 a0.0.0 ++ u48 a1.0.0 ++ u48 a2.0.0 ++ u16 a3.0.0) a3.0.1 (u48 a4.0.0) a4.0.1 e3 t4.0 in
    let made : RecordHead × List ℕ = (record { epoch = a0.0.0; number = a1.0.0; back = a2.0.0; page = a3.0.0; block_back = a4.0.0 }, a4.0.1) in
    let head : IsHead made.0 = record
    { epoch = t0.1; positive = ltb-true _ _ s1.1; number = t1.1; back = ltb-true _ _ s2.1; page = t3.1; block_back = leb-true _ _ s4.1 } in
    subst (λ (y : RecordHead × List ℕ). Takes bytes (encoded_head y.0) y.1 × IsHead y.0) (ok_is made x a4.2) (e4, head)

head_again : (h : RecordHead) (rest : List ℕ) → IsHead h → head_at (encoded_head h ++ rest) ≡ Ok (h, rest)
unfolding head_at
head_again h rest fits = grind (arith, common_steps, u16_reads, u48_reads)

pub head_reads : Reads head_at encoded_head IsHead
head_reads = record { takes = head_takes; again = head_again }

-- ---- shapes

-- a record whose parts were judged one after the other has its shape
has_shape : (h : RecordHead) (init : Bool) (ps : List Patch) → IsHead h → length ps ≤ 64 → IsListed 8192 ps → record_fault (record_from h init ps) ≡ None
has_shape h init ps head few listed = search rules

abbrev head_of : RecordData → RecordHead
head_of r = record { epoch = r.epoch; number = r.number; back = r.back; page = r.page; block_back = r.block_back }

record HasParts (r : RecordData) : Type 0 where
  head : IsHead (head_of r)
  few : length r.patches ≤ 64
  listed : IsListed 8192 r.patches

parts_of : (r : RecordData) → IsWireRecord r → HasParts r
parts_of r wire = search rules

-- the LSN of a record is at least 1
pub number_above_zero : (r : RecordData) → IsWireRecord r → 0 < r.number
number_above_zero r wire = (parts_of r wire).head.positive

-- ---- flags

flag_again : (full : Bool) (n : ℕ) → IsWithin full 0 0 1 n → cond (eqb n 1) 1 0 ≡ n
flag_again full n is = search rules

flag_is : (init : Bool) → eqb (cond init 1 0) 1 ≡ init
flag_is init = search rules

flag_within : (full init : Bool) (ps : List Patch) → is_full_body init ps ≡ full → IsWithin full 0 0 1 (cond init 1 0)
flag_within full init ps e = search rules

form_is : (full : Bool) (n : ℕ) (ps : List Patch) → IsWithin full 0 0 1 n → EachFrom (IsNextPatch full) left_after 8192 ps
    → (not full || is_full_body (eqb n 1) ps) ≡ true → is_full_body (eqb n 1) ps ≡ full
form_is full n ps is each rule = search (rules, none_filled)

-- ---- records after their tags

pub record_part_steps : (full : Bool) (bytes : List ℕ) (head : RecordHead × List ℕ) (flags count : ℕ × List ℕ) (patches : List Patch × List ℕ) → IsBytes bytes
    → head_at bytes ≡ Ok head → within_at full 0 0 1 head.1 ≡ Ok flags → byte_at flags.1 ≡ Ok count → count.0 ≤ 64
    → each_at (patch_at full) left_after count.0 8192 count.1 ≡ Ok patches → (not full || is_full_body (eqb flags.0 1) patches.0) ≡ true
    → let r = record_from head.0 (eqb flags.0 1) patches.0 in Takes bytes (record_part_bytes full r) patches.1 × (IsWireRecord r × (is_full r ≡ full))
record_part_steps full bytes head flags count patches fits e0 e1 e2 few e3 rule =
    let t0 = head_reads.takes bytes head fits e0 in
    let t1 = (within_reads full 0 0 1).takes head.1 flags t0.0.rest_fits e1 in
    let t2 = byte_reads.takes flags.1 count t1.0.rest_fits e2 in
    let t3 = each_takes (patch_at full) left_after (patch_bytes full) (IsNextPatch full) (patch_reads full) count.0 8192 count.1 patches t2.0.rest_fits e3 in
    let b1 = Takes-then head.1 (byte_in full flags.0) flags.1 (count.0 ∷ []) count.1 t1.0 t2.0 in
    let b2 = Takes-then head.1 (byte_in full flags.0 ++ (count.0 ∷ [])) count.1 (flat_map (patch_bytes full) patches.0) patches.1 b1 t3.0 in
    let all = Takes-then bytes (encoded_head head.0) head.1 (byte_in full flags.0 ++ (count.0 ∷ []) ++ flat_map (patch_bytes full) patches.0) patches.1 t0.0
    b2 in
    let len : length patches.0 ≡ count.0 = t3.1 in
    let flags_are = flag_again full flags.0 t1.1 in
    let shape = has_shape head.0 (eqb flags.0 1) patches.0 t0.1 (omega (arith, len)) (from_each full 8192 patches.0 t3.2) in
    (rw (len, flags_are) all, (record { epoch = t0.1.epoch; page = t0.1.page; shape = shape }, form_is full flags.0 patches.0 t1.1 t3.2 rule))

record_part_takes : (full : Bool) (bytes : List ℕ) (x : RecordData × List ℕ) → IsBytes bytes → record_part_at full bytes ≡ Ok x
    → Takes bytes (record_part_bytes full x.0) x.1 × (IsWireRecord x.0 × (is_full x.0 ≡ full))
unfolding record_part_at
record_part_takes full bytes x fits e =
    let a0 = bind_ok (head_at bytes) _ x e in
    let a1 = bind_ok (within_at full 0 0 1 a0.0.1) _ x a0.2 in
    let a2 = bind_ok (shaped (λ n. leb n 64) (byte_at a1.0.1)) _ x a1.2 in
    let s2 = shaped_ok (λ n. leb n 64) (byte_at a1.0.1) a2.0 a2.1 in
    let a3 = bind_ok (shaped (λ ps. not full || is_full_body (eqb a1.0.0 1) ps) (each_at (patch_at full) left_after a2.0.0 8192 a2.0.1)) _ x a2.2 in
    let s3 = shaped_ok (λ ps. not full || is_full_body (eqb a1.0.0 1) ps) (each_at (patch_at full) left_after a2.0.0 8192 a2.0.1) a3.0 a3.1 in
    let made : RecordData × List ℕ = (record_from a0.0.0 (eqb a1.0.0 1) a3.0.0, a3.0.1) in
    subst (λ (y : RecordData × List ℕ). Takes bytes (record_part_bytes full y.0) y.1 × (IsWireRecord y.0 × (is_full y.0 ≡ full))) (ok_is made x a3.2)
    (record_part_steps full bytes a0.0 a1.0 a2.0 a3.0 fits a0.1 a1.1 s2.0 (leb-true _ _ s2.1) s3.0 s3.1)

-- a record of a form has no fills or is in the full form
fills_told : (full init : Bool) (ps : List Patch) → is_full_body init ps ≡ full → (full ≡ true) ⊎ (list_any is_fill ps ≡ false)
fills_told full init ps e = search rules

rule_kept : (full init : Bool) (ps : List Patch) → is_full_body init ps ≡ full → (not full || is_full_body init ps) ≡ true
rule_kept full init ps e = search rules

record_part_again : (full : Bool) (r : RecordData) (rest : List ℕ) → IsWireRecord r × (is_full r ≡ full)
    → record_part_at full (record_part_bytes full r ++ rest) ≡ Ok (r, rest)
unfolding record_part_at
record_part_again full r rest fits =
    let parts = parts_of r fits.0 in
    let z2 = flat_map (patch_bytes full) r.patches ++ rest in
    let z1 = length r.patches ∷ z2 in
    let z0 = byte_in full (flags_of r) ++ z1 in
    let regrouped : record_part_bytes full r ++ rest ≡ encoded_head
    (head_of r) ++ (byte_in full (flags_of r) ++ (length r.patches ∷ (flat_map (patch_bytes full) r.patches ++ rest))) = simp append_assoc in
    let each = to_each full 8192 r.patches (fills_told full r.init r.patches fits.1) parts.listed in
    let flags = (within_reads full 0 0 1).again (flags_of r) z1 (flag_within full r.init r.patches fits.1) in
    ap (record_part_at full) regrouped
    ∙ rw (
      head_reads.again (head_of r) z0 parts.head,
      flags,
      le-leb (length r.patches) 64 parts.few,
      each_again (patch_at full) left_after
          (patch_bytes full) (IsNextPatch full) (patch_reads full) r.patches 8192 rest each,
      flag_is r.init,
      rule_kept full r.init r.patches fits.1,
    ) refl

record_part_reads : (full : Bool) → Reads (record_part_at full) (record_part_bytes full) (λ r. IsWireRecord r × (is_full r ≡ full))
record_part_reads full = record { takes = record_part_takes full; again = record_part_again full }

pub record_reads : Reads record_at record_bytes IsWireRecord
unfolding record_at
record_reads = form_then 1 6 record_part_at record_part_bytes is_full IsWireRecord (λ e. omega (arith, e)) record_part_reads
