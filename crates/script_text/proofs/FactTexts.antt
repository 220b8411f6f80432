-- The lines that are written of facts encode them.
use Rattle.std.proofs.Common.{◌≡◌, ℕ, ◌≤◌, ◌<◌, Bool, ◌||◌, false, List, [], ◌∷◌, ◌++◌, map, length, None, ap, append-nil, arith, rules}
use Rattle.std.proofs.lemmas.Grind.{common_steps}
use Rattle.std.specs.Prelude.{codes}
use Rattle.std.specs.List.{AllByRecursion, AllZip, flat_map, list_any, join_by, join_with_byte}
use Rattle.redo_core.specs.Data.{RecordData}
use Rattle.redo_core.specs.Shape.{is_empty_patch, is_patch_off_page, record_fault}
use Rattle.redo_core.specs.declared.patches.Patch.{Patch}
use Rattle.script_text.specs.FactText.{patch_text, between_commas, contents_text, record_text, IsReadBack}
use Rattle.script_text.specs.Encoded.{EncodesPatch, EncodesContents, EncodesRecord}

patch_encoded : (p : Patch) → is_empty_patch p ≡ false → is_patch_off_page p ≡ false → IsReadBack p → EncodesPatch (patch_text p) p
patch_encoded p some inside back = grind (arith, common_steps)

-- the first of some tests that all fail
neither : (b c : Bool) → (b || c) ≡ false → (b ≡ false) × (c ≡ false)
neither b c h = search rules

each_encoded : (ps : List Patch) → list_any is_empty_patch ps ≡ false → list_any is_patch_off_page ps ≡ false → AllByRecursion IsReadBack ps
    → AllZip EncodesPatch (map patch_text ps) ps
each_encoded [] some inside back = tt
each_encoded (p ∷ ps) some inside back =
    let full = neither (is_empty_patch p) (list_any is_empty_patch ps) some in
    let on = neither (is_patch_off_page p) (list_any is_patch_off_page ps) inside in
    (patch_encoded p full.0 on.0 back.0, each_encoded ps full.1 on.1 back.1)

contents_encoded : (init : Bool) (ps : List Patch) → list_any is_empty_patch ps ≡ false → list_any is_patch_off_page ps ≡ false → AllByRecursion IsReadBack ps
    → EncodesContents (contents_text init ps) init ps
contents_encoded init ps some inside back = search (rules, each_encoded)

pub record_encoded : (r : RecordData) → record_fault r ≡ None → r.epoch ≤ 65535 → r.page ≤ 65535 → AllByRecursion IsReadBack r.patches
    → EncodesRecord (record_text r) r
record_encoded r shape epoch page back = search (rules, contents_encoded)

-- ---- joined texts

commas : {X : Type 0} (f : X → List ℕ) (x : X) (xs : List X) → f x ++ flat_map (λ y. codes "," ++ f y) xs ≡ join_with_byte 44 (map f (x ∷ xs))
commas f x [] = append-nil (f x)
commas f x (y ∷ ys) = ap (λ (t : List ℕ). f x ++ (44 ∷ t)) (commas f y ys)

-- what is joined by commas, where there is something
pub joined_between : {X : Type 0} (f : X → List ℕ) (xs : List X) → 0 < length xs → join_by f (codes ",") xs ≡ between_commas (map f xs)
joined_between f [] some = absurd (omega arith)
joined_between f (x ∷ xs) some = commas f x xs

pub none_between : {X : Type 0} (f : X → List ℕ) (xs : List X) → length xs ≡ 0 → codes "-" ≡ between_commas (map f xs)
none_between f xs none = grind (arith, common_steps)
