-- One frame more is answered.
use Rattle.std.proofs.Common.{◌≡◌, ℕ, List, [], ◌∷◌, ◌++◌, take, map, Option, refl, sym, subst, rules}
use Rattle.std.specs.Prelude.{true}
use Rattle.std.specs.List.{concat}
use Rattle.std.specs.Io.KnownBytes.{Appends}
use Rattle.std.proofs.KnownBytes.{Appends-nil, Appends-trans}
use Rattle.std.proofs.lemmas.List.{map-append}
use Rattle.std.proofs.lemmas.List.Elements.{All-nil, All-push}
use Rattle.std.proofs.lemmas.List.Folds.{concat-append}
use Rattle.framing.specs.Watching.{device_of, has_failed}
use Rattle.framing.specs.declared.devices.watched.Watched.{Watched}
use Rattle.framing.proofs.LinesAnswered.{answers_more, joined_more}
use Rattle.framing.specs.Frames.{AnswersFrame, IsShort, framed}
use Rattle.framing.specs.FramesServed.{AreAnswered, AreCutOff}

frames_more : (xs : List (List ℕ)) (x : List ℕ) → map framed (xs ++ x ∷ []) ≡ map framed xs ++ framed x ∷ []
frames_more xs x = map-append framed xs (x ∷ [])

-- the bytes of one frame more
pub joined : (xs : List (List ℕ)) (x : List ℕ) → concat (map framed (xs ++ x ∷ [])) ≡ concat (map framed xs) ++ framed x
joined xs x = search (rules, frames_more, concat-append)

module _ {W M : Type 0} (answers : M → List ℕ → List ℕ → M → Type 0) (contents : W → Option (List ℕ)) (limit : ℕ) where
  pub answered_none : (old : M) (writer : Watched W) → AreAnswered answers contents limit [] old old writer writer
  answered_none old writer = record { texts = []; answered = refl; short = All-nil IsShort; written = Appends-nil (contents (device_of writer)) }

  pub answered_more : (frames : List (List ℕ)) (old mid new : M) (writer writer' writer'' : Watched W) (frame text : List ℕ)
      → AreAnswered answers contents limit frames old mid writer writer' → (limit' : ℕ) → limit' ≡ limit → AnswersFrame answers limit' mid frame text new
      → (said : List ℕ) → said ≡ text → IsShort text → Appends (contents (device_of writer')) (contents (device_of writer'')) (framed said)
      → AreAnswered answers contents limit (frames ++ frame ∷ []) old new writer writer''
  answered_more frames old mid new writer writer' writer'' frame text h limit' same one said is short put = record {
    texts = h.texts ++ text ∷ [];
    answered = answers_more (AnswersFrame answers limit) old frames h.texts mid frame text new h.answered
        (subst (λ (n : ℕ). AnswersFrame answers n mid frame text new) same one);
    short = All-push IsShort h.texts text h.short short;
    written = subst (λ (l : List (List ℕ)). Appends (contents (device_of writer)) (contents (device_of writer'')) (concat l)) (sym (frames_more h.texts text))
        (joined_more _ _ _ (map framed h.texts) (framed text) h.written
        (subst (λ (t : List ℕ). Appends (contents (device_of writer')) (contents (device_of writer'')) (framed t)) is put));
  }

  pub cut_more : (frames : List (List ℕ)) (old mid new : M) (writer writer' writer'' : Watched W) (frame text : List ℕ) (n : ℕ)
      → AreAnswered answers contents limit frames old mid writer writer' → (limit' : ℕ) → limit' ≡ limit → AnswersFrame answers limit' mid frame text new
      → (said : List ℕ) → said ≡ text → IsShort text → Appends (contents (device_of writer')) (contents (device_of writer'')) (take n (framed said))
      → has_failed writer'' ≡ true → AreCutOff answers contents limit (frames ++ frame ∷ []) old new writer writer''
  cut_more frames old mid new writer writer' writer'' frame text n h limit' same one said is short put failed =
      let last : Appends (contents (device_of writer')) (contents (device_of writer'')) (take n (framed text)) =
      subst (λ (t : List ℕ). Appends (contents (device_of writer')) (contents (device_of writer'')) (take n (framed t))) is put in
      record {
        texts = h.texts;
        text = text;
        count = n;
        answered = answers_more (AnswersFrame answers limit) old frames h.texts mid frame text new h.answered
            (subst (λ (k : ℕ). AnswersFrame answers k mid frame text new) same one);
        short = All-push IsShort h.texts text h.short short;
        written = Appends-trans _ _ _ (concat (map framed h.texts)) (take n (framed text)) h.written last;
        failed = failed;
      }
