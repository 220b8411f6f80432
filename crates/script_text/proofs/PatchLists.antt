-- What a record does to its page, and what is wrong with it.
use Rattle.std.proofs.Common.{◌≡◌, ◌≢◌, ℕ, ◌<◌, Bool, true, false, List, [], ◌∷◌, length, get_or, Option, Some, None, zero, suc, codes, refl, sym, ap, ◌∙◌, true≢false, rules, arith}
use Rattle.std.specs.Prelude.{bytes_eq, Result, Ok, Err, IfErr}
use Rattle.redo_core.specs.Shape.{max_patches}
use Rattle.redo_core.specs.declared.patches.Patch as patches
use Rattle.text.specs.Parts.{◌>>=◌, parts_at}
use Rattle.text.proofs.Options.{bind_some, some_is, true_is, no_test}
use Rattle.text.proofs.Split.{some_parts}
use Rattle.redo_core.specs.declared.records.RecordHead.{RecordHead}
use Rattle.script_text.specs.declared.reasons.FactError.{FactError}
use Rattle.script_text.specs.declared.reasons.FactError.TheVariants.{Memory, Bad}
use Rattle.script_text.specs.declared.reasons.LineReason.{LineReason}
use Rattle.script_text.specs.declared.reasons.LineReason.TheVariants.{CarriageReturn, UnknownWord, FieldCount, AdvanceFieldCount, Field, Zero, PastPage, ManyPatches, Patch, Shape}
use Rattle.script_text.specs.declared.reasons.PatchFault.{PatchFault}
use Rattle.script_text.specs.FactLine.{patch_of, each_patch, Contents, contents, contents_from, contents_of}
use Rattle.script_text.specs.ContentsReasons.{begins_anew, patch_words, IsFaultyPatch, IsContentsReason}
use Rattle.script_text.specs.FactReasons.{IsShape, fault_with, IsPatchesReason, IsBodyReason}
use Rattle.script_text.specs.LineReasons.{IfBad}
use Rattle.script_text.proofs.PatchWords.{faulty_word}
use Rattle.script_text.proofs.RecordContents.{no_dash}

none_left : (o : Option patches.Patch) (os : Option (List patches.Patch)) → os ≡ None → (o >>= (λ p. os >>= (λ ps. Some (p ∷ ps)))) ≡ None
none_left o os e = search rules

-- with one word that is no patch there are no patches
none_at : (words : List (List ℕ)) (k : ℕ) → k < length words → patch_of (get_or words k []) ≡ None → each_patch words ≡ None
none_at [] k lt e = absurd (omega arith)
none_at (word ∷ words) zero lt e = rw e refl
none_at (word ∷ words) (suc k) lt e = none_left (patch_of word) (each_patch words) (none_at words k (omega arith) e)

pub faulty_patch : (words : List (List ℕ)) (at : ℕ) (fault : PatchFault) → IsFaultyPatch words at fault → each_patch words ≡ None
faulty_patch words at fault h = none_at words h.before h.within (faulty_word (get_or words h.before []) fault h.faulty)

-- there are as many patches as words
pub each_length : (words : List (List ℕ)) (ps : List patches.Patch) → each_patch words ≡ Some ps → length ps ≡ length words
each_length [] ps e = let none : [] ≡ ps = some_is [] ps e in rw (← none) refl
each_length (w ∷ ws) ps e =
    let one = bind_some (patch_of w) (λ q. each_patch ws >>= (λ qs. Some (q ∷ qs))) ps e in
    let more = bind_some (each_patch ws) (λ qs. Some (one.0 ∷ qs)) ps one.2 in
    let is : one.0 ∷ more.0 ≡ ps = some_is _ _ more.2 in
    let rest = each_length ws more.0 more.1 in
    rw (← is) (ap (λ (n : ℕ). suc n) rest)

-- ---- by the words between commas

contents_by : (parts : List (List ℕ)) → 0 < length parts
    → contents_from parts ≡ (each_patch (patch_words parts) >>= (λ ps. Some (contents (begins_anew parts) ps)))
unfolding contents_from
contents_by parts some = search rules

pub contents_is : (text : List ℕ) → bytes_eq text (codes "-") ≡ false → 0 < length (parts_at 44 text)
    → contents_of text ≡ (each_patch (patch_words (parts_at 44 text)) >>= (λ ps. Some (contents (begins_anew (parts_at 44 text)) ps)))
unfolding contents_of
contents_is text undashed some = rw undashed (contents_by (parts_at 44 text) some)

contents_none : (text : List ℕ) → bytes_eq text (codes "-") ≡ false → each_patch (patch_words (parts_at 44 text)) ≡ None → contents_of text ≡ None
contents_none text undashed none = contents_is text undashed (some_parts 44 text) ∙ ap (λ (o : Option (List patches.Patch)). o >>= (λ ps. Some (contents (begins_anew (parts_at 44 text)) ps))) none

-- a word that is no patch leaves no contents, and too many leave them or none
pub patchless_contents : (text : List ℕ) (at : ℕ) (fault : PatchFault) → IsContentsReason text (Patch at fault) → contents_of text ≡ None
patchless_contents text at fault h = contents_none text (no_test (bytes_eq text (codes "-")) (λ e. h.0 (true_is text (codes "-") e)))
    (faulty_patch (patch_words (parts_at 44 text)) at fault h.1)

pub many_contents : (text : List ℕ) (c : Contents) → IsContentsReason text ManyPatches → contents_of text ≡ Some c → max_patches < length c.patches
many_contents text c h e = search (rules, contents_is, each_length)

-- ---- what is found of field 7

undashed_is : (text : List ℕ) → bytes_eq text (codes "-") ≡ false → text ≢ codes "-"
undashed_is text undashed e = true≢false (sym (ap (λ (t : List ℕ). bytes_eq t (codes "-")) e) ∙ undashed)

-- the words for patches, by those between commas
pub body_is : (head : RecordHead) (text : List ℕ) (init : Bool) (words : List (List ℕ)) (reason : LineReason) → bytes_eq text (codes "-") ≡ false
    → patch_words (parts_at 44 text) ≡ words → begins_anew (parts_at 44 text) ≡ init → IsPatchesReason head init words reason → IsBodyReason head text reason
body_is head text init words (Shape fault) undashed is anew h =
    let read = contents_is text undashed (some_parts 44 text) ∙ rw (is, anew, h.1) refl in
    (contents init h.0, read, h.2)
body_is head text init words ManyPatches undashed is anew h = (undashed_is text undashed, rw is h)
body_is head text init words (Patch at fault) undashed is anew h = (undashed_is text undashed, rw is h)
body_is head text init words CarriageReturn undashed is anew h = absurd h
body_is head text init words UnknownWord undashed is anew h = absurd h
body_is head text init words (FieldCount wanted) undashed is anew h = absurd h
body_is head text init words AdvanceFieldCount undashed is anew h = absurd h
body_is head text init words (Field at fault) undashed is anew h = absurd h
body_is head text init words (Zero at) undashed is anew h = absurd h
body_is head text init words PastPage undashed is anew h = absurd h

-- the reason of an error has what its Why has
pub bad_more : (Why Other : LineReason → Type 0) (e : FactError) → ((reason : LineReason) → Why reason → Other reason) → IfBad Why e → IfBad Other e
bad_more Why Other Memory more h = tt
bad_more Why Other (Bad reason) more h = more reason h

-- patches whose record has a fault
shape_is : (head : RecordHead) (init : Bool) (words : List (List ℕ)) (ps : List patches.Patch) (reason : LineReason) → each_patch words ≡ Some ps
    → IsShape (fault_with head (contents init ps)) reason → IsPatchesReason head init words reason
shape_is head init words ps (Shape fault) e h = (ps, e, h)
shape_is head init words ps _ e h = absurd h

pub shape_error : (head : RecordHead) (init : Bool) (words : List (List ℕ)) (ps : List patches.Patch) (e : FactError) → each_patch words ≡ Some ps
    → IfBad (IsShape (fault_with head (contents init ps))) e → IfBad (IsPatchesReason head init words) e
shape_error head init words ps e read h = bad_more (IsShape (fault_with head (contents init ps))) (IsPatchesReason head init words) e
    (λ reason is. shape_is head init words ps reason read is) h

pub body_error : (head : RecordHead) (text : List ℕ) (init : Bool) (words : List (List ℕ)) (e : FactError) → bytes_eq text (codes "-") ≡ false
    → patch_words (parts_at 44 text) ≡ words → begins_anew (parts_at 44 text) ≡ init → IfBad (IsPatchesReason head init words) e → IfBad (IsBodyReason head text) e
body_error head text init words e undashed is anew h = bad_more (IsPatchesReason head init words) (IsBodyReason head text) e
    (λ reason why. body_is head text init words reason undashed is anew why) h

-- one word that is neither a dash nor `init`
pub word_error : (head : RecordHead) (text : List ℕ) (e : FactError) → parts_at 44 text ≡ text ∷ [] → bytes_eq text (codes "-") ≡ false → bytes_eq text (codes "init") ≡ false
    → IfBad (IsPatchesReason head false (text ∷ [])) e → IfBad (IsBodyReason head text) e
word_error head text e one undashed other h = body_error head text false (text ∷ []) e undashed (rw (one, other) refl) (rw (one, other) refl) h

-- the word `init` alone
pub init_error : (head : RecordHead) (text : List ℕ) (e : FactError) → parts_at 44 text ≡ text ∷ [] → bytes_eq text (codes "-") ≡ false → bytes_eq text (codes "init") ≡ true
    → IfBad (IsShape (fault_with head (contents true []))) e → IfBad (IsBodyReason head text) e
init_error head text e one undashed is h = body_error head text true [] e undashed (rw (one, is) refl) (rw (one, is) refl) (shape_error head true [] [] e refl h)

dash_is : (head : RecordHead) (text : List ℕ) (reason : LineReason) → bytes_eq text (codes "-") ≡ true → IsShape (fault_with head (contents false [])) reason
    → IsBodyReason head text reason
unfolding contents_of
dash_is head text (Shape fault) dashed h = (contents false [], rw dashed refl, h)
dash_is head text _ dashed h = absurd h

pub dash_error : (head : RecordHead) (text : List ℕ) (e : FactError) → bytes_eq text (codes "-") ≡ true → IfBad (IsShape (fault_with head (contents false []))) e
    → IfBad (IsBodyReason head text) e
dash_error head text e dashed h = bad_more (IsShape (fault_with head (contents false []))) (IsBodyReason head text) e (λ reason is. dash_is head text reason dashed is) h

-- patches behind the word `init` and a comma, and without it
pub anew_error : (head : RecordHead) (text front behind : List ℕ) (e : FactError) → parts_at 44 text ≡ front ∷ parts_at 44 behind → bytes_eq front (codes "init") ≡ true
    → IfBad (IsPatchesReason head true (parts_at 44 behind)) e → IfBad (IsBodyReason head text) e
anew_error head text front behind e parts is h = body_error head text true (parts_at 44 behind) e (no_dash text front (parts_at 44 behind) parts (some_parts 44 behind))
    (rw (parts, is) refl) (rw (parts, is) refl) h

pub kept_error : (head : RecordHead) (text front behind : List ℕ) (e : FactError) → parts_at 44 text ≡ front ∷ parts_at 44 behind → bytes_eq front (codes "init") ≡ false
    → IfBad (IsPatchesReason head false (parts_at 44 text)) e → IfBad (IsBodyReason head text) e
kept_error head text front behind e parts other h = body_error head text false (parts_at 44 text) e (no_dash text front (parts_at 44 behind) parts (some_parts 44 behind))
    (rw (parts, other) refl) (rw (parts, other) refl) h

-- ---- results

on_error : {X : Type 0} (P Q : FactError → Type 0) (r : Result X FactError) → ((e : FactError) → P e → Q e) → IfErr r P → IfErr r Q
on_error P Q (Ok x) more h = tt
on_error P Q (Err e) more h = more e h

pub dash_result : {X : Type 0} (head : RecordHead) (text : List ℕ) (items : List patches.Patch) (r : Result X FactError) → bytes_eq text (codes "-") ≡ true → items ≡ []
    → IfErr r (IfBad (IsShape (fault_with head (contents false items)))) → IfErr r (IfBad (IsBodyReason head text))
dash_result head text items r dashed none h = on_error (IfBad (IsShape (fault_with head (contents false [])))) (IfBad (IsBodyReason head text)) r
    (λ e why. dash_error head text e dashed why) (rw none at h)

pub init_result : {X : Type 0} (head : RecordHead) (text : List ℕ) (items : List patches.Patch) (r : Result X FactError) → parts_at 44 text ≡ text ∷ []
    → bytes_eq text (codes "-") ≡ false → bytes_eq text (codes "init") ≡ true → items ≡ []
    → IfErr r (IfBad (IsShape (fault_with head (contents true items)))) → IfErr r (IfBad (IsBodyReason head text))
init_result head text items r one undashed is none h = on_error (IfBad (IsShape (fault_with head (contents true [])))) (IfBad (IsBodyReason head text)) r
    (λ e why. init_error head text e one undashed is why) (rw none at h)

pub word_result : {X : Type 0} (head : RecordHead) (text : List ℕ) (r : Result X FactError) → parts_at 44 text ≡ text ∷ []
    → bytes_eq text (codes "-") ≡ false → bytes_eq text (codes "init") ≡ false
    → IfErr r (IfBad (IsPatchesReason head false (text ∷ []))) → IfErr r (IfBad (IsBodyReason head text))
word_result head text r one undashed other h = on_error (IfBad (IsPatchesReason head false (text ∷ []))) (IfBad (IsBodyReason head text)) r
    (λ e why. word_error head text e one undashed other why) h

pub anew_result : {X : Type 0} (head : RecordHead) (text front behind : List ℕ) (r : Result X FactError) → parts_at 44 text ≡ front ∷ parts_at 44 behind
    → bytes_eq front (codes "init") ≡ true → IfErr r (IfBad (IsPatchesReason head true (parts_at 44 behind))) → IfErr r (IfBad (IsBodyReason head text))
anew_result head text front behind r parts is h = on_error (IfBad (IsPatchesReason head true (parts_at 44 behind))) (IfBad (IsBodyReason head text)) r
    (λ e why. anew_error head text front behind e parts is why) h

pub kept_result : {X : Type 0} (head : RecordHead) (text front behind : List ℕ) (r : Result X FactError) → parts_at 44 text ≡ front ∷ parts_at 44 behind
    → bytes_eq front (codes "init") ≡ false → IfErr r (IfBad (IsPatchesReason head false (parts_at 44 text))) → IfErr r (IfBad (IsBodyReason head text))
kept_result head text front behind r parts other h = on_error (IfBad (IsPatchesReason head false (parts_at 44 text))) (IfBad (IsBodyReason head text)) r
    (λ e why. kept_error head text front behind e parts other why) h
