-- One line or frame more is answered.
use Rattle.std.proofs.Common.{◌≡◌, ℕ, List, [], ◌∷◌, ◌++◌, Option, refl, sym, ◌∙◌, subst, append_assoc, rules, arith}
use Rattle.std.proofs.lemmas.Grind.{common_steps}
use Rattle.std.specs.List.{concat}
use Rattle.std.specs.Io.KnownBytes.{Appends}
use Rattle.std.proofs.KnownBytes.{Appends-trans, Appends-nil}
use Rattle.std.proofs.lemmas.List.Folds.{concat-append}
use Rattle.framing.specs.Lines.{AnswersLine, AnswersEach, AnswersFirst}

module _ {M : Type 0} (one : M → List ℕ → List ℕ → M → Type 0) where
  pub answers_more : (old : M) (done texts : List (List ℕ)) (mid : M) (asked text : List ℕ) (new : M) → AnswersEach one old done texts mid
      → one mid asked text new → AnswersEach one old (done ++ asked ∷ []) (texts ++ text ∷ []) new
  answers_more old [] [] mid asked text new h now = (new, subst (λ (m : M). one m asked text new) h now, refl)
  answers_more old (d ∷ ds) (t ∷ ts) mid asked text new h now = (h.0, h.1, answers_more h.0 ds ts mid asked text new h.2 now)
  answers_more old [] (t ∷ ts) mid asked text new h now = absurd h
  answers_more old (d ∷ ds) [] mid asked text new h now = absurd h

  answers_both : (old : M) (done texts : List (List ℕ)) (mid : M) (others more : List (List ℕ)) (new : M) → AnswersEach one old done texts mid
      → AnswersEach one mid others more new → AnswersEach one old (done ++ others) (texts ++ more) new
  answers_both old [] [] mid others more new h k = subst (λ (m : M). AnswersEach one m others more new) h k
  answers_both old (d ∷ ds) (t ∷ ts) mid others more new h k = (h.0, h.1, answers_both h.0 ds ts mid others more new h.2 k)
  answers_both old [] (t ∷ ts) mid others more new h k = absurd h
  answers_both old (d ∷ ds) [] mid others more new h k = absurd h

module _ {M : Type 0} (answers : M → List ℕ → List ℕ → M → Type 0) (limit : ℕ) where
  -- no line is answered yet
  pub first_none : (old : M) (lines : List (List ℕ)) → AnswersFirst answers limit old lines [] old lines
  first_none old lines = record { done = []; all = refl; answered = refl }

  -- the next line is answered
  pub first_more : (old : M) (lines texts : List (List ℕ)) (mid : M) (line : List ℕ) (left : List (List ℕ)) (text : List ℕ) (new : M)
      → AnswersFirst answers limit old lines texts mid (line ∷ left) → AnswersLine answers limit mid line text new
      → AnswersFirst answers limit old lines (texts ++ text ∷ []) new left
  first_more old lines texts mid line left text new h one = record {
    done = h.done ++ line ∷ [];
    all = h.all ∙ sym (append_assoc h.done (line ∷ []) left);
    answered = answers_more (AnswersLine answers limit) old h.done texts mid line text new h.answered one;
  }

  -- the lines of more bytes are answered after those before them
  pub first_both : (old : M) (lines texts : List (List ℕ)) (mid : M) (left : List (List ℕ)) (all others more : List (List ℕ)) (new : M) (rest : List (List ℕ))
      → AnswersFirst answers limit old lines texts mid left → ((done : List (List ℕ)) → lines ≡ done ++ left → all ≡ done ++ others)
      → AnswersFirst answers limit mid others more new rest → AnswersFirst answers limit old all (texts ++ more) new rest
  first_both old lines texts mid left all others more new rest h glue k = grind (arith, common_steps, answers_both)

-- ---- the texts, joined
pub joined_more : (a b c : Option (List ℕ)) (texts : List (List ℕ)) (text : List ℕ) → Appends a b (concat texts) → Appends b c text
    → Appends a c (concat (texts ++ text ∷ []))
joined_more a b c texts text p q = search (rules, concat-append, Appends-trans)

pub joined_both : (a b c : Option (List ℕ)) (texts more : List (List ℕ)) → Appends a b (concat texts) → Appends b c (concat more)
    → Appends a c (concat (texts ++ more))
joined_both a b c texts more p q = rw concat-append (Appends-trans a b c (concat texts) (concat more) p q)

-- with a beginning of one more
pub joined_cut : (a b c : Option (List ℕ)) (texts more : List (List ℕ)) (part : List ℕ) → Appends a b (concat texts) → Appends b c (concat more ++ part)
    → Appends a c (concat (texts ++ more) ++ part)
joined_cut a b c texts more part p q = search (rules, concat-append, append_assoc, Appends-trans)

pub joined_none : (a : Option (List ℕ)) → Appends a a (concat [])
joined_none a = Appends-nil a
