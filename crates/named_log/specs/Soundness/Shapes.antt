-- The records of a drill have their shape.
use Rattle.std.proofs.Common.{◌≡◌, ℕ, ◌/◌, ◌%◌, ◌<◌, ◌≤◌, false, List, length, refl, arith, None}
use Rattle.std.specs.List.{list_any, sum_by}
use Rattle.std.proofs.lemmas.Bool.Decides.{nat_tests}
use Rattle.std.proofs.Math.Nat.{mod-lt}
use Rattle.redo_core.specs.Writes.{WriteData}
use Rattle.redo_core.specs.Data.{record_of}
use Rattle.redo_core.specs.Shape.{record_fault, is_empty, is_off_page}
use Rattle.redo_core.proofs.Plain.{plain_length, plain_empty, plain_off_page, plain_bytes}
use Rattle.named_log.specs.DrillLog.{drill_writes}

shape_of : (e n b g bb : ℕ) (ws : List WriteData) → n < 281474976710656 → b < n → bb ≤ b → length ws ≤ 64 → list_any is_empty ws ≡ false
    → list_any is_off_page ws ≡ false → sum_by (λ w. length w.bytes) ws ≤ 8192
    → record_fault (record_of e n b g bb ws) ≡ None
shape_of e n b g bb ws small back block few full inside short = let l = plain_length ws in let e' = plain_empty ws in let o = plain_off_page ws in
    let s = plain_bytes ws in grind (arith, nat_tests, l, e', o, s)

inside_page : (n : ℕ) → list_any is_off_page (drill_writes n) ≡ false
unfolding drill_writes
inside_page n = let l : n / 8 % 511 < 511 = mod-lt (n / 8) (omega arith) in grind (arith, nat_tests)

pub shape : (e n b g bb : ℕ) → n < 281474976710656 → b < n → bb ≤ b → record_fault (record_of e n b g bb (drill_writes n)) ≡ None
unfolding drill_writes
shape e n b g bb small back block = shape_of e n b g bb (drill_writes n) small back block (omega arith) refl (inside_page n) (omega arith)
