-- What is wrong with field 7 of a record.
use Rattle.std.specs.Prelude.{◌≡◌, ◌≢◌, ◌<◌, ◌+◌, ℕ, Bool, false, List, [], ◌∷◌, length, slice_index_or, bytes_eq, codes, if◌then◌else◌}
use Rattle.redo_core.specs.Shape.{max_patches}
use Rattle.text.specs.Parts.{parts_at}
use Rattle.script_text.specs.declared.reasons.LineReason.{LineReason}
use Rattle.script_text.specs.declared.reasons.LineReason.TheVariants.{ManyPatches, Patch}
use Rattle.script_text.specs.declared.reasons.PatchFault.{PatchFault}
use Rattle.script_text.specs.PatchFaults.{IsPatchFault}

-- whether the words between commas begin with `init`
abbrev pub begins_anew : List (List ℕ) → Bool
begins_anew [] = false
begins_anew (word ∷ words) = bytes_eq word (codes "init")

-- the words between commas that stand for patches: all, or those behind `init`
abbrev pub patch_words : List (List ℕ) → List (List ℕ)
patch_words [] = []
patch_words (word ∷ words) = if bytes_eq word (codes "init") then words else word ∷ words

-- the word of that number, from 1, has this fault as a patch
pub record IsFaultyPatch (words : List (List ℕ)) (at : ℕ) (fault : PatchFault) : Type 0 where
  pub before : ℕ
  pub number : at ≡ before + 1
  pub within : before < length words
  pub faulty : IsPatchFault (slice_index_or words before []) fault

-- a list of patches is wrong: a word is none, or there are more than a record has
abbrev pub IsListReason : List (List ℕ) → LineReason → Type 0
IsListReason words ManyPatches = max_patches < length words
IsListReason words (Patch at fault) = IsFaultyPatch words at fault
IsListReason words _ = ⊥

-- the field is no dash, and its list of patches is wrong
abbrev pub IsContentsReason : List ℕ → LineReason → Type 0
IsContentsReason text reason = (text ≢ codes "-") × IsListReason (patch_words (parts_at 44 text)) reason
