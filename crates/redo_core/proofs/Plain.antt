-- Records of writes alone.
use Rattle.std.proofs.lemmas.Grind.{common_steps}
use Rattle.std.proofs.Common.{◌≡◌, ℕ, zero, suc, ◌<◌, List, [], ◌∷◌, length, get_or, refl, arith, false, None}
use Rattle.std.proofs.lemmas.Bool.Decides.{nat_tests}
use Rattle.std.specs.List.{list_any, sum_by}
use Rattle.redo_core.specs.Writes.{WriteData}
use Rattle.redo_core.specs.Data.{RecordData, plain}
use Rattle.redo_core.specs.Shape.{is_empty, is_off_page, is_empty_patch, is_patch_off_page, bytes_in, record_fault}
use Rattle.redo_core.specs.declared.patches.Patch.{Patch}
use Rattle.redo_core.specs.declared.patches.Patch.TheVariants.{Fill}

pub plain_injective : (ws vs : List WriteData) → plain ws ≡ plain vs → ws ≡ vs
plain_injective [] [] e = refl
plain_injective [] (v ∷ vs) e = absurd (cc)
plain_injective (w ∷ ws) [] e = absurd (cc)
plain_injective (w ∷ ws) (v ∷ vs) e = let t : ws ≡ vs = plain_injective ws vs (cc) in cc

pub plain_length : (ws : List WriteData) → length (plain ws) ≡ length ws
plain_length ws = grind (arith, common_steps)

pub plain_empty : (ws : List WriteData) → list_any is_empty_patch (plain ws) ≡ list_any is_empty ws
plain_empty [] = refl
plain_empty (w ∷ ws) = rw (plain_empty ws) refl

pub plain_off_page : (ws : List WriteData) → list_any is_patch_off_page (plain ws) ≡ list_any is_off_page ws
plain_off_page [] = refl
plain_off_page (w ∷ ws) = rw (plain_off_page ws) refl

pub plain_bytes : (ws : List WriteData) → sum_by bytes_in (plain ws) ≡ sum_by (λ w. length w.bytes) ws
plain_bytes ws = grind (arith, common_steps)

pub no_fill : (ws : List WriteData) (i offset len byte : ℕ) (d : Patch) → i < length (plain ws) → get_or (plain ws) i d ≡ Fill offset len byte → ⊥
no_fill [] i offset len byte d l e = omega (arith, l)
no_fill (w ∷ ws) zero offset len byte d l e = cc
no_fill (w ∷ ws) (suc i) offset len byte d l e = no_fill ws i offset len byte d (omega (arith, l)) e

-- the patches of a record that has its shape stay inside the page
pub inside_page : (r : RecordData) → record_fault r ≡ None → list_any is_patch_off_page r.patches ≡ false
inside_page r h = grind (arith, nat_tests)
