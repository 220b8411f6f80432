-- Bodies of writes alone.
use Rattle.std.proofs.Common.{◌≡◌, ℕ, Bool, false, List, [], ◌∷◌, ◌++◌, refl, sym, ap, ◌∙◌}
use Rattle.std.specs.List.{list_any, flat_map}
use Rattle.std.proofs.lemmas.List.Concat.{flat_map-cons}
use Rattle.redo_core.specs.Writes.{WriteData}
use Rattle.redo_core.specs.Data.{plain}
use Rattle.redo_core.specs.declared.patches.Patch.TheVariants.{Bytes}
use Rattle.redo_wire.specs.Records.{is_fill, patch_bytes}

pub plain_unfilled : (ws : List WriteData) → list_any is_fill (plain ws) ≡ false
plain_unfilled [] = refl
plain_unfilled (w ∷ ws) = plain_unfilled ws

pub plain_encoded : (full : Bool) (ws : List WriteData) → flat_map (patch_bytes full) (plain ws) ≡ flat_map (λ (w : WriteData). patch_bytes full (Bytes w)) ws
plain_encoded full [] = refl
plain_encoded full (w ∷ ws) =
    flat_map-cons (patch_bytes full) (Bytes w) (plain ws) ∙ ap (λ (t : List ℕ). patch_bytes full (Bytes w) ++ t) (plain_encoded full ws) ∙ sym
    (flat_map-cons (λ (v : WriteData). patch_bytes full (Bytes v)) w ws)
