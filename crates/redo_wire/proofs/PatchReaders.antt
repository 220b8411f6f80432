-- The patches of a record: what is judged on the way is what the record's shape asks.
use Rattle.std.proofs.Common.{◌≡◌, ℕ, zero, suc, ◌+◌, ◌-◌, ◌<◌, ◌≤◌, ◌⊎◌, inl, inr, Bool, true, false, ltb, leb, List, [], ◌∷◌, ◌++◌, length, Ok, refl, ap, subst, arith, rules}
use Rattle.std.proofs.lemmas.Grind.{common_steps}
use Rattle.std.specs.Prelude.{◌&&◌}
use Rattle.std.specs.List.{list_any, sum_by}
use Rattle.std.proofs.lemmas.Bool.{ltb-true, leb-true, le-ltb, ltb-false, eqb-false, ne_eqb, and_parts, or_from, or_parts}
use Rattle.std.proofs.lemmas.List.Sums.{sum_by-cons}
use Rattle.redo_core.specs.Writes.{WriteData}
use Rattle.redo_core.specs.Shape.{is_empty_patch, is_patch_off_page, bytes_in}
use Rattle.redo_core.specs.declared.patches.Patch.{Patch}
use Rattle.redo_core.specs.declared.patches.Patch.TheVariants.{Bytes, Fill}
use Rattle.redo_wire.specs.Reading.{shaped}
use Rattle.redo_wire.specs.Fields.{byte_at, bytes_at, u16_at, u16}
use Rattle.redo_wire.specs.Records.{is_fill, write_bytes, patch_bytes}
use Rattle.redo_wire.specs.RecordReading.{write_at, fill_at, patch_at, left_after}
use Rattle.redo_wire.proofs.Readers.{IsBytes, bind_ok, ok_is, shaped_ok, mapped_ok, Takes, Takes-then, tag_takes, Reads}
use Rattle.redo_wire.proofs.FieldReaders.{byte_reads, u16_reads, bytes_take}
use Rattle.redo_wire.proofs.ListReaders.{EachFrom}

-- ---- writes

-- a write that brings no more than so many bytes
pub record IsNextWrite (left : ℕ) (w : WriteData) : Type 0 where
  pub filled : 0 < length w.bytes
  pub inside : w.offset + length w.bytes ≤ 4096
  pub small : length w.bytes ≤ left

write_takes : (left : ℕ) (bytes : List ℕ) (x : WriteData × List ℕ) → IsBytes bytes → write_at left bytes ≡ Ok x
    → Takes bytes (write_bytes x.0) x.1 × IsNextWrite left x.0
unfolding write_at
write_takes left bytes x fits e =
    let a = bind_ok (u16_at bytes) _ x e in
    let b = bind_ok (shaped (λ n. ltb 0 n && leb (a.0.0 + n) 4096 && leb n left) (u16_at a.0.1)) _ x a.2 in
    let c = bind_ok (bytes_at b.0.0 b.0.1) _ x b.2 in
    let s = shaped_ok (λ n. ltb 0 n && leb (a.0.0 + n) 4096 && leb n left) (u16_at a.0.1) b.0 b.1 in
    let t0 = u16_reads.takes bytes a.0 fits a.1 in
    let t1 = u16_reads.takes a.0.1 b.0 t0.0.rest_fits s.0 in
    let t2 = bytes_take b.0.0 b.0.1 c.0 t1.0.rest_fits c.1 in
    let rules = and_parts _ _ s.1 in
    let rules' = and_parts _ _ rules.0 in
    let filled = ltb-true _ _ rules'.0 in
    let inside = leb-true _ _ rules'.1 in
    let small = leb-true _ _ rules.1 in
    let len : length c.0.0 ≡ b.0.0 = t2.1 in
    let e1 = Takes-then bytes (u16 a.0.0) a.0.1 (u16 b.0.0) b.0.1 t0.0 t1.0 in
    let e2 = Takes-then bytes (u16 a.0.0 ++ u16 b.0.0) b.0.1 c.0.0 c.0.1 e1 t2.0 in
    let made : WriteData × List ℕ = (record { offset = a.0.0; bytes = c.0.0 }, c.0.1) in
    subst (λ (y : WriteData × List ℕ). Takes bytes (write_bytes y.0) y.1 × IsNextWrite left y.0) (ok_is made x c.2)
    (rw len e2, record { filled = rw len filled; inside = rw len inside; small = rw len small })

write_again : (left : ℕ) (w : WriteData) (rest : List ℕ) → IsNextWrite left w → write_at left (write_bytes w ++ rest) ≡ Ok (w, rest)
unfolding write_at
write_again left w rest fits = grind (arith, common_steps, u16_reads)

-- ---- fills

abbrev fill_bytes : ℕ → ℕ → ℕ → List ℕ
fill_bytes offset len byte = u16 offset ++ u16 len ++ (byte ∷ [])

record IsRead (bytes : List ℕ) (p : Patch) (rest : List ℕ) : Type 0 where
  offset : ℕ
  len : ℕ
  byte : ℕ
  is : Fill offset len byte ≡ p
  taken : Takes bytes (fill_bytes offset len byte) rest
  filled : 0 < len
  inside : offset + len ≤ 4096

fill_takes : (bytes : List ℕ) (x : Patch × List ℕ) → IsBytes bytes → fill_at bytes ≡ Ok x → IsRead bytes x.0 x.1
unfolding fill_at
fill_takes bytes x fits e =
    let a = bind_ok (u16_at bytes) _ x e in
    let b = bind_ok (shaped (λ n. ltb 0 n && leb (a.0.0 + n) 4096) (u16_at a.0.1)) _ x a.2 in
    let c = bind_ok (byte_at b.0.1) _ x b.2 in
    let s = shaped_ok (λ n. ltb 0 n && leb (a.0.0 + n) 4096) (u16_at a.0.1) b.0 b.1 in
    let t0 = u16_reads.takes bytes a.0 fits a.1 in
    let t1 = u16_reads.takes a.0.1 b.0 t0.0.rest_fits s.0 in
    let t2 = byte_reads.takes b.0.1 c.0 t1.0.rest_fits c.1 in
    let rules = and_parts _ _ s.1 in
    let e1 = Takes-then bytes (u16 a.0.0) a.0.1 (u16 b.0.0) b.0.1 t0.0 t1.0 in
    let e2 = Takes-then bytes (u16 a.0.0 ++ u16 b.0.0) b.0.1 (c.0.0 ∷ []) c.0.1 e1 t2.0 in
    let made : Patch × List ℕ = (Fill a.0.0 b.0.0 c.0.0, c.0.1) in
    let same : made ≡ x = ok_is made x c.2 in
    record {
      offset = a.0.0;
      len = b.0.0;
      byte = c.0.0;
      is = ap (λ (y : Patch × List ℕ). y.0) same;
      taken = subst (λ (y : Patch × List ℕ). Takes bytes (fill_bytes a.0.0 b.0.0 c.0.0) y.1) same e2;
      filled = ltb-true _ _ rules.0;
      inside = leb-true _ _ rules.1;
    }

fill_again : (offset len byte : ℕ) (rest : List ℕ) → 0 < len → offset + len ≤ 4096
    → fill_at (fill_bytes offset len byte ++ rest) ≡ Ok (Fill offset len byte, rest)
unfolding fill_at
fill_again offset len byte rest filled inside = grind (arith, common_steps, u16_reads)

-- ---- patches

-- a patch that may come next in the plain or the full form, where writes may still bring so many bytes
abbrev pub IsNextPatch : Bool → ℕ → Patch → Type 0
IsNextPatch full left (Bytes w) = IsNextWrite left w
IsNextPatch full left (Fill offset len byte) = (full ≡ true) × (0 < len) × (offset + len ≤ 4096)

patch_takes : (full : Bool) (left : ℕ) (bytes : List ℕ) (x : Patch × List ℕ) → IsBytes bytes → patch_at full left bytes ≡ Ok x
    → Takes bytes (patch_bytes full x.0) x.1 × IsNextPatch full left x.0
unfolding patch_at
patch_takes false left bytes x fits e =
    let m = mapped_ok Bytes (write_at left bytes) x e in
    let t = write_takes left bytes (m.0, x.1) fits m.1 in
    subst (λ (p : Patch). Takes bytes (patch_bytes false p) x.1 × IsNextPatch false left p) m.2 t
patch_takes true left [] x fits e = absurd cc
patch_takes true left (zero ∷ bytes) x fits e =
    let m = mapped_ok Bytes (write_at left bytes) x e in
    let t = write_takes left bytes (m.0, x.1) (λ i. fits (suc i)) m.1 in
    subst (λ (p : Patch). Takes (0 ∷ bytes) (patch_bytes true p) x.1 × IsNextPatch true left p) m.2 (tag_takes 0 bytes (write_bytes m.0) x.1 t.0, t.1)
patch_takes true left (suc zero ∷ bytes) x fits e =
    let t = fill_takes bytes x (λ i. fits (suc i)) e in
    subst (λ (p : Patch). Takes (1 ∷ bytes) (patch_bytes true p) x.1 × IsNextPatch true left p) t.is
    (tag_takes 1 bytes (fill_bytes t.offset t.len t.byte) x.1 t.taken, (refl, t.filled, t.inside))
patch_takes true left (suc (suc b) ∷ bytes) x fits e =
    let kind = suc (suc b) in
    let e' = rw (ne_eqb kind 0 (λ h. omega arith), ne_eqb kind 1 (λ h. omega arith)) at e in
    absurd cc

patch_again : (full : Bool) (left : ℕ) (p : Patch) (rest : List ℕ) → IsNextPatch full left p → patch_at full left (patch_bytes full p ++ rest) ≡ Ok (p, rest)
unfolding patch_at
patch_again full left p rest fits = search (rules, write_again, fill_again)

pub patch_reads : (full : Bool) (left : ℕ) → Reads (patch_at full left) (patch_bytes full) (IsNextPatch full left)
patch_reads full left = record { takes = patch_takes full left; again = patch_again full left }

-- ---- the rules of a record's patches, and those judged patch by patch

pub record IsListed (left : ℕ) (ps : List Patch) : Type 0 where
  pub none_empty : list_any is_empty_patch ps ≡ false
  pub inside : list_any is_patch_off_page ps ≡ false
  pub small : sum_by bytes_in ps ≤ left

pub from_each : (full : Bool) (left : ℕ) (ps : List Patch) → EachFrom (IsNextPatch full) left_after left ps → IsListed left ps
from_each full left [] h = record { none_empty = refl; inside = refl; small = omega arith }
from_each full left (Bytes w ∷ ps) h =
    let filled = h.0.filled in
    let small = h.0.small in
    let rest = from_each full (left - length w.bytes) ps h.1 in
    let sum = sum_by-cons bytes_in (Bytes w) ps in
    let less = rest.small in
    record {
      none_empty = or_from _ _ (ne_eqb _ _ (λ e. omega arith)) rest.none_empty;
      inside = or_from _ _ (le-ltb _ _ h.0.inside) rest.inside;
      small = omega arith;
    }
from_each full left (Fill offset len byte ∷ ps) h =
    let filled = h.0.1 in
    let rest = from_each full (left - 0) ps h.1 in
    let sum = sum_by-cons bytes_in (Fill offset len byte) ps in
    let less = rest.small in
    record {
      none_empty = or_from _ _ (ne_eqb _ _ (λ e. omega arith)) rest.none_empty;
      inside = or_from _ _ (le-ltb _ _ h.0.2) rest.inside;
      small = omega arith;
    }

-- the plain form has no fills
pub none_filled : (left : ℕ) (ps : List Patch) → EachFrom (IsNextPatch false) left_after left ps → list_any is_fill ps ≡ false
none_filled left [] h = refl
none_filled left (Bytes w ∷ ps) h = none_filled (left - length w.bytes) ps h.1
none_filled left (Fill offset len byte ∷ ps) h = absurd (let none = h.0.0 in cc)

pub to_each : (full : Bool) (left : ℕ) (ps : List Patch) → (full ≡ true) ⊎ (list_any is_fill ps ≡ false) → IsListed left ps
    → EachFrom (IsNextPatch full) left_after left ps
to_each full left [] form h = tt
to_each full left (Bytes w ∷ ps) form h =
    let e = or_parts _ _ h.none_empty in
    let o = or_parts _ _ h.inside in
    let ne = eqb-false (length w.bytes) 0 e.0 in
    let sum = sum_by-cons bytes_in (Bytes w) ps in
    let small = h.small in (
      record { filled = omega (arith, ne); inside = ltb-false 4096 (w.offset + length w.bytes) o.0; small = omega arith },
      to_each full
          (left - length w.bytes) ps form (record { none_empty = e.1; inside = o.1; small = omega arith }),
    )
to_each full left (Fill offset len byte ∷ ps) (inl is) h =
    let e = or_parts _ _ h.none_empty in
    let o = or_parts _ _ h.inside in
    let ne = eqb-false len 0 e.0 in
    let sum = sum_by-cons bytes_in (Fill offset len byte) ps in
    let small = h.small in (
      (is, omega (arith, ne), ltb-false 4096 (offset + len) o.0),
      to_each full (left - 0) ps (inl is)
          (record { none_empty = e.1; inside = o.1; small = omega arith }),
    )
to_each full left (Fill offset len byte ∷ ps) (inr none) h = absurd cc
