-- Texts behind a head, in lines and in frames.
use Rattle.std.proofs.Common.{◌≡◌, ◌≢◌, ℕ, ◌+◌, ◌<◌, ◌≤◌, List, [], ◌∷◌, ◌++◌, length, refl, sym, ap, ◌∙◌, append_assoc, arith, length-append}
use Rattle.std.proofs.lemmas.Grind.{common_steps}
use Rattle.std.specs.Prelude.{codes}
use Rattle.node_stream.specs.Telling.{fitted, frame_behind, rendered}
use Rattle.node_stream.specs.Telling.BodyData.{Text, Raw}
use Rattle.node_stream.specs.declared.job.Form.{Form}
use Rattle.node_stream.specs.declared.job.Form.TheVariants.{Lines, Frames}

pub fits_whole : (long bytes : List ℕ) → length bytes ≤ 4294967295 → fitted long bytes ≡ bytes
unfolding fitted
fits_whole long bytes few = grind (arith, common_steps)

pub fits_not : (long bytes : List ℕ) → 4294967295 < length bytes → fitted long bytes ≡ long
unfolding fitted
fits_not long bytes many = grind (arith, common_steps)

pub fits_behind : (head text : List ℕ) → length head + length text ≤ 4294967295 → frame_behind head text ≡ head ++ text
fits_behind [] text few = refl
fits_behind (b ∷ bs) text few = fits_whole (codes "too long") ((b ∷ bs) ++ text) (omega (arith, few, length-append (b ∷ bs) text))

pub short_behind : (form : Form) (head text : List ℕ) → length head + length text ≤ 4294967295
    → rendered form [] (Text (head ++ text)) ≡ rendered form head (Text text)
short_behind Lines head text few = append_assoc head text (codes "\n")
short_behind Frames head text few = sym (fits_behind head text few)

-- ---- what was made, in a frame
pub frame_whole : (form : Form) (head text : List ℕ) → form ≡ Frames → length (head ++ text) ≤ 4294967295 → rendered form head (Text text) ≡ head ++ text
frame_whole form head text is few =
    ap (λ (f : Form). rendered f head (Text text)) is ∙ fits_behind head text (omega (arith, few, length-append head text))

pub frame_long : (form : Form) (head text : List ℕ) → form ≡ Frames → head ≢ [] → 4294967295 < length (head ++ text)
    → rendered form head (Text text) ≡ codes "too long"
frame_long form [] text is headed many = absurd (headed refl)
frame_long form (b ∷ bs) text is headed many =
    ap (λ (f : Form). rendered f (b ∷ bs) (Text text)) is ∙ fits_not (codes "too long") ((b ∷ bs) ++ text) many

pub ruleset frames = (frame_whole, frame_long)

-- ---- a word and bytes, in a frame
pub raw_whole : (form : Form) (head word bytes : List ℕ) → form ≡ Frames → length (word ++ (codes " " ++ bytes)) ≤ 4294967295
    → rendered form head (Raw word bytes) ≡ rendered form head (Text (word ++ (codes " " ++ bytes)))
raw_whole Lines head word bytes is few = absurd cc
raw_whole Frames head word bytes is few = ap (frame_behind head) (fits_whole (word ++ codes " too long") (word ++ (codes " " ++ bytes)) few)

pub raw_long : (form : Form) (head word bytes : List ℕ) → form ≡ Frames → 4294967295 < length (word ++ (codes " " ++ bytes))
    → rendered form head (Raw word bytes) ≡ rendered form head (Text (word ++ codes " too long"))
raw_long Lines head word bytes is many = absurd cc
raw_long Frames head word bytes is many = ap (frame_behind head) (fits_not (word ++ codes " too long") (word ++ (codes " " ++ bytes)) many)

pub ruleset values = (raw_whole, raw_long)
