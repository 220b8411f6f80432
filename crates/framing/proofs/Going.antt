-- A loop over the lines of some bytes.
use Rattle.std.proofs.Common.{◌≡◌, ℕ, List, [], ◌∷◌, ◌++◌, take, Bool, true, Option, Result, sym, ◌∙◌, subst, append_assoc, rules}
use Rattle.std.specs.Prelude.{OnErr, ◌||◌}
use Rattle.std.specs.List.{concat}
use Rattle.std.specs.Io.KnownBytes.{Appends}
use Rattle.text.specs.Parts.{parts_at}
use Rattle.framing.specs.Watching.{device_of, has_failed}
use Rattle.framing.specs.Lines.{AnswersLine, AnswersFirst, glued}
use Rattle.framing.specs.LinesServed.{EndsWith, IsCutOff}
use Rattle.framing.specs.declared.devices.watched.Watched.{Watched}
use Rattle.framing.proofs.LinesAnswered.{first_none, first_more, first_both, joined_none, joined_more, joined_both, joined_cut}
use Rattle.framing.proofs.Gluing.{glued_none, parts_go_on}
use Rattle.text.proofs.Split.{some_parts}
use Rattle.std.proofs.KnownBytes.{Appends-trans}

-- The lines before the rest are answered, and a part of the next line has arrived.
pub record Goes {W M : Type 0} (answers : M → List ℕ → List ℕ → M → Type 0) (contents : W → Option (List ℕ)) (limit : ℕ) (begun bytes : List ℕ)
    (old mid : M) (writer writer' : Watched W) (part rest : List ℕ) : Type 0 where
  pub texts : List (List ℕ)
  pub lines : AnswersFirst answers limit old (glued begun (parts_at 10 bytes)) texts mid (glued part (parts_at 10 rest))
  pub written : Appends (contents (device_of writer)) (contents (device_of writer')) (concat texts)

module _ {W M : Type 0} (answers : M → List ℕ → List ℕ → M → Type 0) (contents : W → Option (List ℕ)) (limit : ℕ) where
  pub goes_start : (begun bytes : List ℕ) (old : M) (writer : Watched W) → Goes answers contents limit begun bytes old old writer writer begun bytes
  goes_start begun bytes old writer = search rules

  at_limit : (mid : M) (line text : List ℕ) (new : M) (limit' : ℕ) → limit' ≡ limit → AnswersLine answers limit' mid line text new
      → AnswersLine answers limit mid line text new
  at_limit mid line text new limit' same one = subst (λ (n : ℕ). AnswersLine answers n mid line text new) same one

  -- the next line
  next_line : (begun bytes : List ℕ) (old mid : M) (writer writer' : Watched W) (part rest front behind text : List ℕ) (new : M)
      → (h : Goes answers contents limit begun bytes old mid writer writer' part rest) → parts_at 10 rest ≡ front ∷ parts_at 10 behind
      → AnswersLine answers limit mid (part ++ front) text new
      → AnswersFirst answers limit old (glued begun (parts_at 10 bytes)) (h.texts ++ text ∷ []) new (parts_at 10 behind)
  next_line begun bytes old mid writer writer' part rest front behind text new h some one = search (rules, first_more)

  -- the answer to the next line is written
  pub goes_on : (begun bytes : List ℕ) (old mid : M) (writer writer' writer'' : Watched W) (part rest front behind text : List ℕ) (new : M)
      → Goes answers contents limit begun bytes old mid writer writer' part rest → parts_at 10 rest ≡ front ∷ parts_at 10 behind
      → (limit' : ℕ) → limit' ≡ limit → AnswersLine answers limit' mid (part ++ front) text new
      → (said : List ℕ) → said ≡ text → Appends (contents (device_of writer')) (contents (device_of writer'')) said
      → Goes answers contents limit begun bytes old new writer writer'' [] behind
  goes_on begun bytes old mid writer writer' writer'' part rest front behind text new h some limit' same one said is put = record {
    texts = h.texts ++ text ∷ [];
    lines = subst (λ (ps : List (List ℕ)). AnswersFirst answers limit old (glued begun (parts_at 10 bytes)) (h.texts ++ text ∷ []) new ps)
        (sym (glued_none (parts_at 10 behind)))
        (next_line begun bytes old mid writer writer' part rest front behind text new h some (at_limit mid (part ++ front) text new limit' same one));
    written = joined_more _ _ _ h.texts text h.written
        (subst (Appends (contents (device_of writer')) (contents (device_of writer''))) is put);
  }

  -- the answer to the next line is not written, or not the whole of it, or not flushed
  pub goes_off : (begun bytes : List ℕ) (old mid : M) (writer writer' writer'' : Watched W) (part rest front behind text : List ℕ) (new : M) (n : ℕ)
      → Goes answers contents limit begun bytes old mid writer writer' part rest → parts_at 10 rest ≡ front ∷ parts_at 10 behind
      → (limit' : ℕ) → limit' ≡ limit → AnswersLine answers limit' mid (part ++ front) text new
      → (said : List ℕ) → said ≡ text → Appends (contents (device_of writer')) (contents (device_of writer'')) (take n said)
      → has_failed writer'' ≡ true
      → IsCutOff answers contents limit (glued begun (parts_at 10 bytes)) old new writer writer''
  goes_off begun bytes old mid writer writer' writer'' part rest front behind text new n h some limit' same one said is put failed =
      let last : Appends (contents (device_of writer')) (contents (device_of writer'')) (take n text) =
      subst (λ (t : List ℕ). Appends (contents (device_of writer')) (contents (device_of writer'')) (take n t)) is put in
      record {
        texts = h.texts;
        text = text;
        left = parts_at 10 behind;
        count = n;
        answered = next_line begun bytes old mid writer writer' part rest front behind text new h some (at_limit mid (part ++ front) text new limit' same one);
        some = some_parts 10 behind;
        written = Appends-trans _ _ _ (concat h.texts) (take n text) h.written last;
        failed = failed;
      }

  -- no line is left
  pub goes_end : (begun bytes : List ℕ) (old mid : M) (writer writer' : Watched W) (part rest : List ℕ)
      → Goes answers contents limit begun bytes old mid writer writer' part rest → parts_at 10 rest ≡ rest ∷ []
      → EndsWith answers contents limit begun bytes old mid writer writer' (part ++ rest)
  goes_end begun bytes old mid writer writer' part rest h none = search rules

  -- ---- bytes after bytes
  -- nothing has been read
  pub ends_start : (old : M) (writer : Watched W) → EndsWith answers contents limit [] [] old old writer writer []
  ends_start old writer = record { texts = []; lines = first_none answers limit old ([] ∷ []); written = joined_none (contents (device_of writer)) }

  regrouped : (input bytes rest : List ℕ) (done : List (List ℕ)) → glued [] (parts_at 10 input) ≡ done ++ rest ∷ []
      → parts_at 10 (input ++ bytes) ≡ done ++ glued rest (parts_at 10 bytes)
  regrouped input bytes rest done h = parts_go_on 10 input bytes done rest (sym (glued_none (parts_at 10 input)) ∙ h)

  pub ends_more : (input bytes : List ℕ) (old mid new : M) (writer writer' writer'' : Watched W) (rest rest' : List ℕ)
      → EndsWith answers contents limit [] input old mid writer writer' rest
      → (limit' : ℕ) → limit' ≡ limit → EndsWith answers contents limit' rest bytes mid new writer' writer'' rest'
      → EndsWith answers contents limit [] (input ++ bytes) old new writer writer'' rest'
  ends_more input bytes old mid new writer writer' writer'' rest rest' h limit' same k' = search (rules, first_both, glued_none, regrouped, joined_both)

  pub cut_more : (input bytes : List ℕ) (old mid new : M) (writer writer' writer'' : Watched W) (rest : List ℕ)
      → EndsWith answers contents limit [] input old mid writer writer' rest
      → (limit' : ℕ) → limit' ≡ limit → IsCutOff answers contents limit' (glued rest (parts_at 10 bytes)) mid new writer' writer''
      → IsCutOff answers contents limit (parts_at 10 (input ++ bytes)) old new writer writer''
  cut_more input bytes old mid new writer writer' writer'' rest h limit' same k' =
      let k = subst (λ (n : ℕ). IsCutOff answers contents n (glued rest (parts_at 10 bytes)) mid new writer' writer'') same k' in record {
        texts = h.texts ++ k.texts;
        text = k.text;
        left = k.left;
        count = k.count;
        answered = subst (λ (ts : List (List ℕ)). AnswersFirst answers limit old (parts_at 10 (input ++ bytes)) ts new k.left)
            (sym (append_assoc h.texts k.texts (k.text ∷ [])))
            (first_both answers limit old (glued [] (parts_at 10 input)) h.texts mid (rest ∷ []) (parts_at 10 (input ++ bytes)) (glued rest (parts_at 10 bytes))
            (k.texts ++ k.text ∷ []) new k.left h.lines (regrouped input bytes rest) k.answered);
        some = k.some;
        written = joined_cut _ _ _ h.texts k.texts (take k.count k.text) h.written k.written;
        failed = k.failed;
      }

-- ---- results
pub on_err : {A E : Type 0} (r : Result A E) (P : Type 0) → P → OnErr r P
on_err r P h = search rules

pub failed_now : (a b : Bool) → a ≡ (b || true) → a ≡ true
failed_now a b h = search rules
